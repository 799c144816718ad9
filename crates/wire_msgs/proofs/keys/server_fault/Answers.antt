use Rattle.std.proofs.Common.{sym, ap, ◌∙◌}
use Rattle.wire_msgs.specs.Keys.{keys_fault}
use Rattle.wire_msgs.specs.Types.{server_keys}
use Rattle.wire_msgs.proofs.keys.server_fault.Goals as goal

pub returns-in-Connect : goal.returns-in-Connect
returns-in-Connect c = c.keys_fault.ensures ∙ ap (λ k. keys_fault (server_keys k) c.args.fields.now) (sym c.in-Connect.is)
