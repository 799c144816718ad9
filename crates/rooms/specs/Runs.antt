-- How a run ends, and what a server leaves.
use Rattle.std.specs.Prelude.{◌≡◌, ℕ, ◌⊎◌, List, Option, Some, None}
use Rattle.room_link.specs.Exchange.{Exchange}
use Rattle.room_link.specs.Worker.{Worker}
use Rattle.rooms.specs.declared.job.Job.{Job}
use Rattle.room_server.specs.Outcomes.{IsServeStatus, IsOutcome}
use Rattle.room_server.specs.declared.job.Served.{Served}
use Rattle.rooms.specs.declared.job.Job.TheVariants.{Replay, Save, Restore, Make, Serve, Join}
use Rattle.join_job.specs.Working.{IsJoinStatus}
use Rattle.replay_job.specs.Endings.{IsReplayStatus}
use Rattle.make_job.specs.Outcomes.{IsMakeStatus}

-- the statuses with which the program ends
abbrev pub IsStatus : ℕ → Type 0
IsStatus status = (status ≡ 2) ⊎ (status ≡ 7) ⊎ (status ≡ 8) ⊎ (status ≡ 9) ⊎ IsReplayStatus status

-- the statuses of a job, or of words that ask for none
abbrev pub IsStatusOf : Option Job → ℕ → Type 0
IsStatusOf None status = status ≡ 2
IsStatusOf (Some (Replay trace)) status = IsReplayStatus status
IsStatusOf (Some Save) status = IsReplayStatus status
IsStatusOf (Some Restore) status = IsReplayStatus status
IsStatusOf (Some (Make seed size print)) status = IsMakeStatus status
IsStatusOf (Some (Serve port workers rooms links)) status = IsServeStatus status
IsStatusOf (Some (Join port room)) status = IsJoinStatus status

-- a server ends so: there is a result of `room_server` with this status that tells what was served, written and closed
module _ {K A : Type 0} (link_faults : K → ℕ) (link_told : K → Option Exchange)
    (worker_faults : A → ℕ) (worker_told : A → Option (Worker K)) where
  pub record Serves (rooms : ℕ) (before after : List A) (old new : Option (List ℕ)) (faults_old faults_new : ℕ) (status : ℕ) : Type 0 where
    pub served : Served
    pub is : served.status ≡ status
    pub outcome : IsOutcome link_faults link_told worker_faults worker_told rooms before after old new faults_old faults_new served
