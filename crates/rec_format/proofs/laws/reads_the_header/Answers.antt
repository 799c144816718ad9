use Rattle.rec_format.proofs.OneEachLemmas.{reads_header}
use Rattle.rec_format.proofs.laws.reads_the_header.Goals as goal

pub returns : goal.returns
returns c = reads_header
