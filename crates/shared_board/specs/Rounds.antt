-- What one round of moves makes of a board.
use Rattle.std.specs.Prelude.{◌≡◌, ℕ, ◌<◌, Bool, true, false, Ok}
use Rattle.room_model.specs.Schemas.{WorldSchemas}
use Rattle.room_model.specs.Worlds.{World, Stepped, after_event}
use Rattle.room_model.specs.declared.event.Event.{Event}
use Rattle.room_model.specs.declared.event.Event.TheVariants as event
use Rattle.side_effects.specs.declared.fault.EditFault.{EditFault}
use Rattle.shared_board.specs.declared.board.Board.{Board}
use Rattle.shared_board.specs.declared.moving.Leg.{Leg}
use Rattle.shared_board.specs.declared.moving.Leg.TheVariants as leg
use Rattle.shared_board.specs.Moving.{IsRefused, IsSettled, Reaches}
use Rattle.shared_board.specs.Standing.{Stands}

-- the event by which something moves
abbrev pub move_of : Leg → ℕ → Event
move_of leg.Handle session = event.Handle session
move_of leg.Send session = event.Send session
move_of leg.Deliver client = event.Deliver client

-- an event happened, or can't happen
abbrev pub Attempts : WorldSchemas EditFault → World → Event → Bool → Board → Type 0
Attempts schemas from e true board = (made : Stepped) × (after_event schemas false from e ≡ Ok made) × Stands schemas made.world board
Attempts schemas from e false board = IsRefused (after_event schemas false from e) × Stands schemas from board

-- something moved; or none of so many moves can happen, and the world is as it was
abbrev pub Tries : WorldSchemas EditFault → World → Leg → ℕ → Bool → Board → Type 0
Tries schemas from way count true board = Reaches schemas from board
Tries schemas from way count false board = ((number : ℕ) → number < count → IsRefused (after_event schemas false from (move_of way number))) × Stands schemas from board

-- something moved; or everything has arrived, and the world is as it was
abbrev pub Passes : WorldSchemas EditFault → World → Bool → Board → Type 0
Passes schemas from true board = Reaches schemas from board
Passes schemas from false board = IsSettled schemas from × Stands schemas from board
