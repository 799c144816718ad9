-- What the status of a job says of its end.
use Rattle.std.proofs.Common.{◌≡◌, ◌⊎◌, inl, inr, ℕ, List, Option, Result, Ok, Err, refl, sym, ap, ◌∙◌}
use Rattle.std.specs.Prelude.{IsErrOf}
use Rattle.replay_job.specs.Endings.{status_code, IsReplayStatus}
use Rattle.replay_job.specs.declared.play.End.{End}
use Rattle.replay_job.specs.declared.play.Stop.{Stop}
use Rattle.replay_job.specs.declared.play.Stop.TheVariants.{SourceFailed, SinkFailed}
use Rattle.replay_job.proofs.EndingLemmas.{read_status, stopped_status, read_is_not_stopped, stopped_is_not_read, source_failed, sink_failed}
use Rattle.snapshot_jobs.specs.Ending.{LeavesSaved}
use Rattle.snapshot_jobs.specs.Endings.{SavesAll, SavesFront, RestoresAll, RestoresAllFront}
use Rattle.snapshot_jobs.specs.Restored.{LeavesRestored}

-- it is one of a replay
pub status_known : (r : Result End Stop) → IsReplayStatus (status_code r)
status_known (Ok e) = read_status e
status_known (Err s) = stopped_status s

-- 4 is that of a source that failed, 5 that of a sink
pub of_source : (r : Result End Stop) → status_code r ≡ 4 → IsErrOf r SourceFailed
of_source (Ok e) four = absurd (read_is_not_stopped e (inl four))
of_source (Err s) four = ap Err (source_failed s four)

pub of_sink : (r : Result End Stop) → status_code r ≡ 5 → IsErrOf r SinkFailed
of_sink (Ok e) five = absurd (read_is_not_stopped e (inr (inl five)))
of_sink (Err s) five = ap Err (sink_failed s five)

module _ (left old new : Option (List ℕ)) where
  pub saved_all : (r : Result End Stop) → (status_code r ≡ 0) ⊎ (status_code r ≡ 3) → LeavesSaved left r old new → SavesAll left (status_code r) old new
  saved_all (Ok e) read leaves = leaves
  saved_all (Err s) read leaves = absurd (stopped_is_not_read s read)

  pub saved_front : (r : Result End Stop) → (status_code r ≡ 4) ⊎ (status_code r ≡ 5) ⊎ (status_code r ≡ 6) → LeavesSaved left r old new → SavesFront left old new
  saved_front (Ok e) stopped leaves = absurd (read_is_not_stopped e stopped)
  saved_front (Err s) stopped leaves = leaves

  pub restored_all : (r : Result End Stop) → (status_code r ≡ 0) ⊎ (status_code r ≡ 3) → LeavesRestored left r old new → RestoresAll left (status_code r) old new
  restored_all (Ok e) read leaves = leaves
  restored_all (Err s) read leaves = absurd (stopped_is_not_read s read)

  pub restored_front : (r : Result End Stop) → (status_code r ≡ 4) ⊎ (status_code r ≡ 5) ⊎ (status_code r ≡ 6) → LeavesRestored left r old new → RestoresAllFront left old new
  restored_front (Ok e) stopped leaves = absurd (read_is_not_stopped e stopped)
  restored_front (Err s) stopped leaves = leaves
