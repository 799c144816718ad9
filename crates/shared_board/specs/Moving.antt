-- How what is on the way arrives.
use Rattle.std.specs.Prelude.{◌≡◌, ◌≢◌, ℕ, ◌<◌, false, Result, Ok, Err}
use Rattle.room_model.specs.Schemas.{WorldSchemas}
use Rattle.room_model.specs.Worlds.{World, Outcome, Stepped, after_event}
use Rattle.room_model.specs.declared.event.Event.{Event}
use Rattle.room_model.specs.declared.event.Event.TheVariants as event
use Rattle.room_model.specs.declared.fault.StepFault.{StepFault}
use Rattle.room_model.specs.declared.limits.TheConstants.{MOST_CLIENTS}
use Rattle.side_effects.specs.declared.fault.EditFault.{EditFault}
use Rattle.shared_board.specs.declared.board.Board.{Board}
use Rattle.shared_board.specs.declared.fault.BoardFault.{BoardFault}
use Rattle.shared_board.specs.declared.fault.BoardFault.TheVariants.{Restless, OutOfMemory}
use Rattle.shared_board.specs.Standing.{Stands}

-- an event moves what is on the way: the room hears a message or gives one out, or a client is given one
abbrev pub IsMoving : Event → Type 0
IsMoving (event.Handle session) = Unit {0}
IsMoving (event.Send session) = Unit {0}
IsMoving (event.Deliver client) = Unit {0}
IsMoving other = ⊥

-- a world comes of another by such events alone
pub data Moves (schemas : WorldSchemas EditFault) (from : World) : World → Type 0 where
  stays : Moves schemas from from
  goes : (state : World) (e : Event) (made : Stepped) → Moves schemas from state → IsMoving e → after_event schemas false state e ≡ Ok made → Moves schemas from made.world

-- an event can't happen
abbrev pub IsRefused : Outcome EditFault → Type 0
IsRefused outcome = (why : StepFault EditFault) × (outcome ≡ Err why)

-- nothing is on the way any more: the room has heard everything and has nothing to give out, and no client is to be given anything
pub record IsSettled (schemas : WorldSchemas EditFault) (state : World) : Type 0 where
  pub heard : (session : ℕ) → IsRefused (after_event schemas false state (event.Handle session))
  pub told : (session : ℕ) → IsRefused (after_event schemas false state (event.Send session))
  pub given : (client : ℕ) → client < MOST_CLIENTS → IsRefused (after_event schemas false state (event.Deliver client))

-- the board stands for a world that comes of one by moving alone
abbrev pub Reaches : WorldSchemas EditFault → World → Board → Type 0
Reaches schemas from board = (state : World) × Moves schemas from state × Stands schemas state board

-- it stands for one in which everything has arrived
abbrev pub Settles : WorldSchemas EditFault → World → Result (Unit {0}) BoardFault → Board → Type 0
Settles schemas from (Ok answer) board = (state : World) × Moves schemas from state × IsSettled schemas state × Stands schemas state board
Settles schemas from (Err fault) board = fault ≢ OutOfMemory → (fault ≡ Restless) × Reaches schemas from board
