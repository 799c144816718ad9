-- What `replay --save` writes of a recording.
use Rattle.std.specs.Prelude.{◌≡◌, ℕ, ◌+◌, List, [], ◌∷◌, false, Some, None}
use Rattle.rooms_val.specs.Json.{text_of}
use Rattle.room_history.specs.Saving.{IsSavedOf}
use Rattle.room_model.specs.Rooms.{Room}
use Rattle.room_model.specs.Schemas.{Schemas}
use Rattle.room_model.specs.declared.saved.SavedRoom.{SavedRoom}
use Rattle.room_snapshot.specs.Lines.{line_val}
use Rattle.room_snapshot.specs.Saved.{saved_tree}
use Rattle.replay_job.specs.Replay.{Rest, all_of}
use Rattle.replay_job.specs.Taking.{Progress, Taken, refused, passed, ended, Takes}
use Rattle.replay_job.specs.Texts.{written_line, fault_line, unended_text}

-- what a recording comes to: it is refused at a line, for a cause of this text; or it ends with this progress
pub data Outcome : Type 0 where
  refused_at : ℕ → List ℕ → Outcome
  ends_in : Progress → Outcome

-- how what the rest comes to follows from what becomes of a line
abbrev pub Follows : ℕ → Taken → (Progress → Outcome → Type 0) → Outcome → Type 0
Follows at (refused text) Rest outcome = outcome ≡ refused_at at text
Follows at (passed lines next) Rest outcome = Rest next outcome
Follows at (ended lines next) Rest outcome = outcome ≡ ends_in next

-- what the lines from a number on come to after this progress, where the fault at their end has this text
abbrev pub Comes : List ℕ → Progress → ℕ → List (List ℕ) → Outcome → Type 0
Comes unended progress at [] outcome = outcome ≡ refused_at at unended
Comes unended progress at (line ∷ lines) outcome =
    (taken : Taken) × Takes false progress line taken × Follows at taken (λ next rest. Comes unended next (at + 1) lines rest) outcome

-- what the rest of a recording comes to
abbrev pub RestComes : Rest → Outcome → Type 0
RestComes rest outcome = Comes (unended_text rest.whole) rest.progress rest.at rest.lines outcome

-- a text is the line of what is saved of a room, with the versions of its schema
pub record IsRoomLine (schemas : Schemas) (room : Room) (line : List ℕ) : Type 0 where
  pub saved : SavedRoom
  pub of_room : IsSavedOf schemas.is_document room.first room.history saved
  pub text : line ≡ written_line (text_of (line_val (saved_tree saved) schemas.versions))

-- what is written of what a recording comes to, and with which status: the line of the room at its end, or the fault line alone
abbrev pub WritesOutcome : Outcome → ℕ → List ℕ → Type 0
WritesOutcome (refused_at at text) status written = (status ≡ 3) × (written ≡ fault_line at text)
WritesOutcome (ends_in None) status written = ⊥
WritesOutcome (ends_in (Some (schemas, viewed))) status written = (status ≡ 0) × IsRoomLine schemas.room viewed.world.room written

-- what is written of a recording, and with which status
abbrev pub Saves : List ℕ → ℕ → List ℕ → Type 0
Saves recording status written = (outcome : Outcome) × RestComes (all_of recording) outcome × WritesOutcome outcome status written
