use Rattle.rec_format.proofs.OneEachLemmas.{one_event}
use Rattle.rec_format.proofs.laws.one_event_each.Goals as goal

pub returns : goal.returns
returns c = one_event
