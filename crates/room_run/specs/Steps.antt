-- What each kind of step tells the seat that makes it, by what it knew and has before and after.
use Rattle.std.specs.Prelude.{◌≡◌, ◌≢◌, ℕ, List, [], ◌∷◌, ◌++◌, length, drop, Bool, true, false, Option, Some, None}
use Rattle.std.specs.Option.{option_map_or}
use mathlib.Core.Option.{some}
use lib.ListN.{get_elem?}
use Rattle.atomic_table.specs.Table.{Me, Step}
use Rattle.room_events.specs.declared.room_event.RoomEvent.{RoomEvent}
use Rattle.room_run.specs.Openings.{Opening}
use Rattle.room_run.specs.Rule.{story, Fits, AreApart}
use Rattle.room_run.specs.declared.views.Note.{Note}
use Rattle.room_run.specs.declared.views.Story.{Story}
use Rattle.room_run.specs.declared.views.View.{View}

-- a seat: its view, and the slot if it has it
abbrev pub Seated : Type 0
Seated = Me (Option Story) View

-- a step on a running room's table
abbrev pub Move : Type 0
Move = Step (Option Story)

-- a new seat is as the first one
abbrev pub sat : Move → Seated → ℕ → Seated → Type 0
sat move before found after = after ≡ before

-- a view of a seat that has seen so much, and has the turn or not
abbrev pub seeing : Bool → List RoomEvent → View → View
seeing turn seen v = record { opening = v.opening; turn = turn; seen = seen; mine = v.mine; notes = v.notes }

-- a seat has taken the turn. It has seen the pen, which is in the slot, and what it knew fits the pen
pub record HasTaken (before after : Seated) : Type 0 where
  pub view : after.0 ≡ seeing true after.0.seen before.0
  pub slot : (opening : Opening) → before.0.opening ≡ Some opening → after.1 ≡ (0, Some (story opening after.0.seen)) ∷ []
  pub fits : Fits after.0.seen before.0.seen before.0.mine

-- it takes the turn where it found that nobody has it; else nothing changes
abbrev pub took : Move → Seated → ℕ → Seated → Type 0
took move before found after = (found ≡ 0 → HasTaken before after) × (found ≢ 0 → after ≡ before)

-- the pen in the slot of a seat that has it
abbrev pub pen_in : List (ℕ × Option Story) → List RoomEvent
pen_in [] = []
pen_in (slot ∷ slots) = option_map_or (λ story. story.pen) slot.1 []

-- a view once the pen has grown: what is new in it was made by this seat
abbrev pub grown : View → List RoomEvent → View
grown v pen = record { opening = v.opening; turn = v.turn; seen = pen; mine = v.mine ++ drop (length v.seen) pen; notes = v.notes }

-- the pen that is in the slot is the history from now on
abbrev pub appended : Move → Seated → ℕ → Seated → Type 0
appended move before found after = after ≡ (grown before.0 (pen_in before.1), before.1)

-- a view without the turn
abbrev pub without_turn : View → View
without_turn v = seeing false v.seen v

-- the turn is given back with the slot
abbrev pub gave : Move → Seated → ℕ → Seated → Type 0
gave move before found after = after ≡ (without_turn before.0, [])

-- what is noted of a view
abbrev pub note_of : View → Note
note_of v = record { seen = v.seen; mine = v.mine }

-- a view with a note of another
abbrev pub noted : View → View → View
noted v w = record { opening = v.opening; turn = v.turn; seen = v.seen; mine = v.mine; notes = v.notes ++ note_of w ∷ [] }

-- the view of a seat that was noted by another
abbrev pub spent : View
spent = record { opening = None; turn = false; seen = []; mine = []; notes = [] }

-- nothing changes, and the notes fit what the seat has seen and are of different sessions
abbrev pub learned : Move → Seated → ℕ → Seated → Type 0
learned move before found after =
    (after ≡ before)
    × ((i : ℕ) (note : Note) → get_elem? before.0.notes i ≡ some note → Fits before.0.seen note.seen note.mine)
    × AreApart before.0.notes
