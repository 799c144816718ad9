use Rattle.snapshot_jobs.proofs.SavedTextLemmas.{text_saved}
use Rattle.snapshot_jobs.proofs.laws.recordings_have_a_saved_text.Goals as goal

pub returns : goal.returns
returns c = text_saved
