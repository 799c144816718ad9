-- What the code's replies to a line say.
use Rattle.std.specs.Prelude.{◌≡◌, ℕ, List, Bool, Option, Some, None}
use Rattle.room_model.specs.Schemas.{WorldSchemas}
use Rattle.rec_format.specs.declared.recorded.RecordedEvent.{RecordedEvent}
use Rattle.replay_job.specs.Taking.{Progress, Taken, refused, passed, ended, Takes, TakesHeader, TakesEvent, Happens}
use Rattle.replay_job.specs.Texts.{lines_text, fault_line}
use Rattle.replay_job.specs.declared.play.End.{End}
use Rattle.replay_job.specs.declared.play.End.TheVariants as end
use Rattle.replay_job.specs.declared.replay.Reply.{Reply}
use Rattle.replay_job.specs.declared.replay.Reply.TheVariants.{Refused, Wrote, Ended}
use Rattle.side_effects.specs.declared.fault.EditFault.{EditFault}
use Rattle.world_views.specs.Standing.{Stands}
use Rattle.world_views.specs.Views.{Viewed}
use Rattle.world_views.specs.declared.viewed.ViewedWorld.{ViewedWorld}

-- the code has read so far: it has no world before the header, and then one that stands for the definition's
abbrev pub Reads : Progress → Option ViewedWorld → Type 0
Reads None None = Unit {0}
Reads (Some (schemas, viewed)) (Some world) = Stands schemas viewed world
Reads None (Some world) = ⊥
Reads (Some progress) None = ⊥

-- the reply tells what became of the line, and the code has read so far as that leaves
abbrev pub Tells : Progress → Taken → Reply → Option ViewedWorld → Type 0
Tells progress (refused text) (Refused told) world = (told ≡ text) × Reads progress world
Tells progress (passed lines next) (Wrote told) world = (told.items ≡ lines) × Reads next world
Tells progress (ended lines next) (Ended told) world = (told.items ≡ lines) × Reads next world
Tells progress taken reply world = ⊥

-- the reply tells what becomes of a line after this progress
abbrev pub Becomes : Bool → Progress → List ℕ → Reply → Option ViewedWorld → Type 0
Becomes trace progress line reply world = (taken : Taken) × Takes trace progress line taken × Tells progress taken reply world

-- the same of the first line that isn't passed by
abbrev pub BecomesHeader : List ℕ → Reply → Option ViewedWorld → Type 0
BecomesHeader line reply world = (taken : Taken) × TakesHeader line taken × Tells None taken reply world

-- the same of a later one
abbrev pub BecomesEvent : Bool → WorldSchemas EditFault → Viewed → List ℕ → Reply → Option ViewedWorld → Type 0
BecomesEvent trace schemas viewed line reply world =
    (taken : Taken) × TakesEvent trace schemas viewed line taken × Tells (Some (schemas, viewed)) taken reply world

-- the same of its event
abbrev pub BecomesOf : Bool → WorldSchemas EditFault → Viewed → RecordedEvent → Reply → Option ViewedWorld → Type 0
BecomesOf trace schemas viewed e reply world =
    (taken : Taken) × Happens trace schemas viewed e taken × Tells (Some (schemas, viewed)) taken reply world

-- what a reply writes, and how the recording ends with it, if it does
abbrev pub reply_text : ℕ → Reply → List ℕ
reply_text at (Refused text) = fault_line at text
reply_text at (Wrote lines) = lines_text lines.items
reply_text at (Ended lines) = lines_text lines.items

abbrev pub reply_end : Reply → Option End
reply_end (Refused text) = Some end.Refused
reply_end (Wrote lines) = None
reply_end (Ended lines) = Some end.Done
