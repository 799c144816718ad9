use Rattle.wire_msgs.proofs.ReadsLemmas.{reads_client}
use Rattle.wire_msgs.proofs.laws.reads_the_client.Goals as goal

pub returns : goal.returns
returns c = reads_client
