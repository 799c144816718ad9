-- For which recording in the making the code's stands, and what may still happen to it.
use Rattle.std.specs.Prelude.{◌≡◌, ◌<◌, ◌+◌, ◌^◌, ℕ, List, [], ◌∷◌, Bool, true, false, Option, slice_index}
use Rattle.room_link.specs.Held.{Extends}
use Rattle.room_model.specs.Schemas.{WorldSchemas}
use Rattle.room_model.specs.declared.event.Event.{Event}
use Rattle.room_model.specs.declared.fault.StepFault.{StepFault}
use Rattle.room_model.specs.declared.fault.StepFault.TheVariants.{OutOfMemory}
use Rattle.rec_format.specs.Printing.{IsPrintable}
use Rattle.side_effects.specs.declared.fault.EditFault.{EditFault}
use Rattle.sync_world.specs.Playing.{IsPlayed}
use Rattle.sync_world.specs.Standing.{Stands}
use Rattle.make_job.specs.Made as made
use Rattle.replay_job.specs.Replay.{IsFront}
use Rattle.make_job.specs.declared.making.Making.{Making}

-- the code's world, sessions and counts are those of a recording in the making, and what is written of it was added to a sink
pub record IsMaking (schemas : WorldSchemas EditFault) (m : made.Making) (code : Making) (old new : Option (List ℕ)) : Type 0 where
  pub world : Stands schemas m.world code.world
  pub sessions : code.sessions ≡ m.sessions
  pub last : code.last ≡ m.last
  pub taken : code.taken ≡ m.taken
  pub refused : code.refused ≡ m.refused
  pub written : Extends old new m.text

-- so many events may still happen: no count grows too large by them
pub record HasPlace (events : ℕ) (code : Making) : Type 0 where
  pub taken : code.taken + events < 2 ^ 63
  pub refused : code.refused + events < 2 ^ 63
  pub sessions : code.sessions + events < 2 ^ 63
  pub last : (client : ℕ) → slice_index code.last client < 2 ^ 63

-- an event is one that worlds play, and can be printed
pub record IsReady (e : Event) : Type 0 where
  pub played : IsPlayed e
  pub printable : IsPrintable e

-- it is so of each of some events
abbrev pub AreReady : List Event → Type 0
AreReady [] = Unit {0}
AreReady (e ∷ events) = IsReady e × AreReady events

-- the fault is a refusal, and not that memory ran out
abbrev pub is_refusal : StepFault EditFault → Bool
is_refusal OutOfMemory = false
is_refusal fault = true

-- a front of a text was added to a sink
abbrev pub AddsFront : List ℕ → Option (List ℕ) → Option (List ℕ) → Type 0
AddsFront text old new = (front : List ℕ) × IsFront front text × Extends old new front
