use Rattle.std.proofs.Common.{◌≡◌, Some, ap, sym, ◌∙◌}
use Rattle.field_ops.proofs.ViewLemmas.{same_op}
use Rattle.sync_msgs.proofs.client_message.copy_presence.Goals as goal

pub returns-in_ok-copy-in-Some : goal.returns-in_ok-copy-in-Some
returns-in_ok-copy-in-Some c = ap Some (same_op _ _ c.in_ok-copy-in-Some.ensures) ∙ sym c.in-Some.is
