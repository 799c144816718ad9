-- The rule of a running room's table: what holds of its words, its slot and the views of its seats between any two steps.
use Rattle.std.specs.Prelude.{◌≡◌, ◌≢◌, ◌⊎◌, ℕ, List, [], ◌∷◌, length, true, false, Option, Some}
use mathlib.Core.List.{IsPrefix}
use mathlib.Core.Option.{some, none}
use lib.ListN.{get_elem?}
use Rattle.atomic_table.specs.Table.{State}
use Rattle.room_events.specs.Events.{events_of, number_of}
use Rattle.room_events.specs.declared.room_event.RoomEvent.{RoomEvent}
use Rattle.room_run.specs.Openings.{Opening}
use Rattle.room_run.specs.declared.views.Note.{Note}
use Rattle.room_run.specs.declared.views.Story.{Story}
use Rattle.room_run.specs.declared.views.View.{View}

-- the table of a running room. Of what is in its slot the rule sees the room that was opened, and the pen
abbrev pub Board : Type 0
Board = State (Option Story) View

-- a story that is told so far
abbrev pub story : Opening → List RoomEvent → Story
story opening pen = record { opening = opening; pen = pen }

-- the view of a seat that has seen and done nothing
abbrev pub newcomer : Opening → View
newcomer opening = record { opening = Some opening; turn = false; seen = []; mine = []; notes = [] }

-- nobody has the turn. Word 0 is the number of events, word 1 is 0, and the slot is at home
pub record IsNobodysTurn (opening : Opening) (board : Board) (pen : List RoomEvent) : Type 0 where
  pub words : board.words ≡ length pen ∷ 0 ∷ []
  pub home : board.homes ≡ some (Some (story opening pen)) ∷ []
  pub nobody : (seat : ℕ) (v : View) → get_elem? board.views seat ≡ some v → v.turn ≡ false

-- just one seat has the turn, and it has seen the whole pen. Word 0 is the number of events, word 1 is 1, and the slot is out
pub record IsSomeonesTurn (board : Board) (pen : List RoomEvent) : Type 0 where
  pub words : board.words ≡ length pen ∷ 1 ∷ []
  pub home : board.homes ≡ none ∷ []
  pub whose : ℕ
  pub has_turn : (v : View) × (get_elem? board.views whose ≡ some v) × (v.turn ≡ true) × (v.seen ≡ pen)
  pub alone : (seat : ℕ) (v : View) → get_elem? board.views seat ≡ some v → v.turn ≡ true → seat ≡ whose

-- the pen begins with what was seen, and its events of a session that made some are just those, in their order
pub record Fits (pen seen mine : List RoomEvent) : Type 0 where
  pub begins : IsPrefix seen pen
  pub own : (number : ℕ) → number_of mine ≡ Some number → events_of number pen ≡ mine

-- a note fits the pen, and no seat has its session any more
pub record IsNoted (pen : List RoomEvent) (views : List View) (note : Note) : Type 0 where
  pub fits : Fits pen note.seen note.mine
  pub is_over : (number : ℕ) → number_of note.mine ≡ Some number
      → (seat : ℕ) (v : View) → get_elem? views seat ≡ some v → number_of v.mine ≢ Some number

-- no two of some notes are of one session
abbrev pub AreApart : List Note → Type 0
AreApart notes =
    (i j number : ℕ) (x y : Note) → get_elem? notes i ≡ some x → get_elem? notes j ≡ some y
    → number_of x.mine ≡ Some number → number_of y.mine ≡ Some number → i ≡ j

-- the views of all seats fit the pen
pub record AllFit (pen : List RoomEvent) (views : List View) : Type 0 where
  pub fits : (seat : ℕ) (v : View) → get_elem? views seat ≡ some v → Fits pen v.seen v.mine
  -- no two are of one session
  pub apart : (seat other number : ℕ) (v w : View) → get_elem? views seat ≡ some v → get_elem? views other ≡ some w
      → number_of v.mine ≡ Some number → number_of w.mine ≡ Some number → seat ≡ other
  -- and so do the notes that they have
  pub noted : (seat : ℕ) (v : View) → get_elem? views seat ≡ some v
      → (i : ℕ) (note : Note) → get_elem? v.notes i ≡ some note → IsNoted pen views note
  pub notes_apart : (seat : ℕ) (v : View) → get_elem? views seat ≡ some v → AreApart v.notes

-- the rule: there is one history, the pen. Nobody has the turn, or one seat has it; and all views fit, and are of this room
pub record Kept (opening : Opening) (board : Board) : Type 0 where
  pub pen : List RoomEvent
  pub turn : IsNobodysTurn opening board pen ⊎ IsSomeonesTurn board pen
  pub views : AllFit pen board.views
  pub ours : (seat : ℕ) (v : View) → get_elem? board.views seat ≡ some v → (other : Opening) → v.opening ≡ Some other → other ≡ opening
