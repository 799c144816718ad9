use Rattle.wire_msgs.proofs.OneEachLemmas.{one_server}
use Rattle.wire_msgs.proofs.laws.one_server_each.Goals as goal

pub returns : goal.returns
returns c = one_server
