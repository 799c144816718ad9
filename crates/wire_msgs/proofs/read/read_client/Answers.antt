use Rattle.std.proofs.Common.{sym, ◌∙◌}
use Rattle.rooms_val.specs.View.{data_of}
use Rattle.rooms_val.specs.Json.{value_of}
use Rattle.wire_msgs.specs.declared.read.TheConstants.{DEEPEST_FROM_CLIENT}
use Rattle.wire_msgs.proofs.TextLemmas.{client_text, shallow_read}
use Rattle.wire_msgs.proofs.read.read_client.Goals as goal

pub returns-clause-refused : goal.returns-clause-refused
returns-clause-refused c =
    client_text c.client_of.result _ (data_of c.in_ok-val.val)
    (shallow_read DEEPEST_FROM_CLIENT (value_of c.args.bytes.now) (data_of c.in_ok-val.val) c.in_ok-val.ensures (sym c.is_within.ensures ∙ c.if-not-is_within.false))
    c.client_of.ensures.refused
