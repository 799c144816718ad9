-- Which end of a recording the code's stands for.
use Rattle.std.specs.Prelude.{◌≡◌, ℕ, List, ⊤, Option, Some, None, Result, Ok, Err}
use Rattle.replay_job.specs.Endings.{status_code}
use Rattle.replay_job.specs.Replay.{Rest}
use Rattle.replay_job.specs.Replies.{Reads}
use Rattle.replay_job.specs.Texts.{fault_line}
use Rattle.replay_job.specs.declared.play.End.{End}
use Rattle.replay_job.specs.declared.play.End.TheVariants as end
use Rattle.replay_job.specs.declared.play.Stop.{Stop}
use Rattle.room_model.specs.Schemas.{WorldSchemas}
use Rattle.side_effects.specs.declared.fault.EditFault.{EditFault}
use Rattle.snapshot_jobs.specs.Endings.{SavesAll, SavesFront}
use Rattle.snapshot_jobs.specs.Saving.{Outcome, refused_at, ends_in, RestComes, IsRoomLine}
use Rattle.snapshot_jobs.specs.declared.save.Last.{Last}
use Rattle.snapshot_jobs.specs.declared.save.Last.TheVariants.{Refused, Ended}
use Rattle.world_views.specs.Standing.{Stands}
use Rattle.world_views.specs.Views.{Viewed}
use Rattle.world_views.specs.declared.viewed.ViewedWorld.{ViewedWorld}

-- the code tells what a recording comes to
abbrev pub Tells : Outcome → Last → Option ViewedWorld → Type 0
Tells (refused_at at text) (Refused number fault) world = (number ≡ at) × (fault ≡ text)
Tells (ends_in progress) Ended world = Reads progress world
Tells outcome last world = ⊥

-- the rest of a recording comes to what the code tells, where that rest is known
abbrev pub Ends : Option Rest → Last → Option ViewedWorld → Type 0
Ends None last world = ⊤
Ends (Some rest) last world = (outcome : Outcome) × RestComes rest outcome × Tells outcome last world

-- how the recording ends
abbrev pub last_end : Last → End
last_end (Refused number fault) = end.Refused
last_end Ended = end.Done

-- what is written in the end: the fault line, or the line of the room of the world that was left
abbrev pub WritesLast : Last → Option ViewedWorld → List ℕ → Type 0
WritesLast (Refused at fault) world text = text ≡ fault_line at fault
WritesLast Ended None text = ⊥
WritesLast Ended (Some code) text = (schemas : WorldSchemas EditFault) (viewed : Viewed) → Stands schemas viewed code → IsRoomLine schemas.room viewed.world.room text

-- how a recording that is saved leaves its sink
abbrev pub LeavesSaved : Option (List ℕ) → Result End Stop → Option (List ℕ) → Option (List ℕ) → Type 0
LeavesSaved left (Ok e) old new = SavesAll left (status_code (Ok e)) old new
LeavesSaved left (Err stop) old new = SavesFront left old new
