-- What the end of a replay says of its status.
use Rattle.std.proofs.Common.{◌≡◌, ℕ, ◌⊎◌, List, Bool, Option, None, Some, Ok, Err, refl, inl, inr, arith}
use Rattle.replay_job.specs.Endings.{IsReplayStatus, WritesAll, Prints, status_code}
use Rattle.replay_job.specs.declared.play.End.{End}
use Rattle.replay_job.specs.declared.play.End.TheVariants.{Done, Refused}
use Rattle.replay_job.specs.declared.play.Stop.{Stop}
use Rattle.replay_job.specs.declared.play.Stop.TheVariants.{SourceFailed, SinkFailed, OutOfMemory}
use Rattle.world_views.specs.declared.viewed.ViewedWorld.{ViewedWorld}

-- a recording that was read has status 0 or 3
pub read_status : (e : End) → IsReplayStatus (status_code (Ok e))
read_status Done = inl refl
read_status Refused = inr (inl refl)

pub stopped_status : (s : Stop) → IsReplayStatus (status_code (Err s))
stopped_status SourceFailed = inr (inr (inl refl))
stopped_status SinkFailed = inr (inr (inr (inl refl)))
stopped_status OutOfMemory = inr (inr (inr (inr refl)))

-- and neither 4, 5 nor 6
pub read_is_not_stopped : (e : End) → (status_code (Ok e) ≡ 4) ⊎ (status_code (Ok e) ≡ 5) ⊎ (status_code (Ok e) ≡ 6) → ⊥
read_is_not_stopped Done (inl is) = absurd (omega (arith, is))
read_is_not_stopped Done (inr (inl is)) = absurd (omega (arith, is))
read_is_not_stopped Done (inr (inr is)) = absurd (omega (arith, is))
read_is_not_stopped Refused (inl is) = absurd (omega (arith, is))
read_is_not_stopped Refused (inr (inl is)) = absurd (omega (arith, is))
read_is_not_stopped Refused (inr (inr is)) = absurd (omega (arith, is))

pub stopped_is_not_read : (s : Stop) → (status_code (Err s) ≡ 0) ⊎ (status_code (Err s) ≡ 3) → ⊥
stopped_is_not_read SourceFailed (inl is) = absurd (omega (arith, is))
stopped_is_not_read SourceFailed (inr is) = absurd (omega (arith, is))
stopped_is_not_read SinkFailed (inl is) = absurd (omega (arith, is))
stopped_is_not_read SinkFailed (inr is) = absurd (omega (arith, is))
stopped_is_not_read OutOfMemory (inl is) = absurd (omega (arith, is))
stopped_is_not_read OutOfMemory (inr is) = absurd (omega (arith, is))

-- 4 is that of a source that failed, 5 that of a sink
pub source_failed : (s : Stop) → status_code (Err s) ≡ 4 → s ≡ SourceFailed
source_failed SourceFailed is = refl
source_failed SinkFailed is = absurd (omega (arith, is))
source_failed OutOfMemory is = absurd (omega (arith, is))

pub sink_failed : (s : Stop) → status_code (Err s) ≡ 5 → s ≡ SinkFailed
sink_failed SourceFailed is = absurd (omega (arith, is))
sink_failed SinkFailed is = refl
sink_failed OutOfMemory is = absurd (omega (arith, is))

-- what is said of sink and world is said of the sink
pub prints : (trace : Bool) (left : Option (List ℕ)) (status : ℕ) (world : Option ViewedWorld) (old new : Option (List ℕ)) → WritesAll trace left status world old new → Prints trace left status old new
prints trace None status world old new all = tt
prints trace (Some recording) status world old new all = (all.0, all.1, all.2, all.4)
