use Rattle.snapshot_jobs.proofs.RestoredTextLemmas.{restored_found}
use Rattle.snapshot_jobs.proofs.laws.recordings_are_restored.Goals as goal

pub returns : goal.returns
returns c = restored_found
