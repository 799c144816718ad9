use Rattle.snapshot_jobs.proofs.OneRestoredTextLemmas.{one_restored_text}
use Rattle.snapshot_jobs.proofs.laws.recordings_are_restored_once.Goals as goal

pub returns : goal.returns
returns c = one_restored_text
