use Rattle.replay_job.proofs.EveryTextLemmas.{text_found}
use Rattle.replay_job.proofs.laws.recordings_have_a_text.Goals as goal

pub returns : goal.returns
returns c = text_found
