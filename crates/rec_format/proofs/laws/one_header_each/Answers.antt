use Rattle.rec_format.proofs.OneEachLemmas.{one_header}
use Rattle.rec_format.proofs.laws.one_header_each.Goals as goal

pub returns : goal.returns
returns c = one_header
