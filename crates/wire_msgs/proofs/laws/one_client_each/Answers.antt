use Rattle.wire_msgs.proofs.OneEachLemmas.{one_client}
use Rattle.wire_msgs.proofs.laws.one_client_each.Goals as goal

pub returns : goal.returns
returns c = one_client
