use Rattle.replay_job.proofs.OneTextLemmas.{one_written}
use Rattle.replay_job.proofs.laws.recordings_have_one_text.Goals as goal

pub returns : goal.returns
returns c = one_written
