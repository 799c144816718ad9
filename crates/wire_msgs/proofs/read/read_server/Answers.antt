use Rattle.rooms_val.specs.View.{data_of}
use Rattle.wire_msgs.proofs.TextLemmas.{server_text}
use Rattle.wire_msgs.proofs.read.read_server.Goals as goal

pub returns-clause-refused : goal.returns-clause-refused
returns-clause-refused c = server_text c.server_of.result _ (data_of c.in_ok-val.val) c.in_ok-val.ensures c.server_of.ensures.refused
