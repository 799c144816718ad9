use Rattle.rec_format.proofs.OneEachLemmas.{reads_event}
use Rattle.rec_format.proofs.laws.reads_the_event.Goals as goal

pub returns : goal.returns
returns c = reads_event
