use Rattle.snapshot_jobs.proofs.OneSavedTextLemmas.{one_saved_text}
use Rattle.snapshot_jobs.proofs.laws.recordings_have_one_saved_text.Goals as goal

pub returns : goal.returns
returns c = one_saved_text
