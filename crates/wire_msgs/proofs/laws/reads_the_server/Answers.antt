use Rattle.wire_msgs.proofs.ReadsLemmas.{reads_server}
use Rattle.wire_msgs.proofs.laws.reads_the_server.Goals as goal

pub returns : goal.returns
returns c = reads_server
