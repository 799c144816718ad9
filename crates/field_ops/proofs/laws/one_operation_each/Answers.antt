use Rattle.field_ops.proofs.WireLemmas.{one_change}
use Rattle.field_ops.proofs.laws.one_operation_each.Goals as goal

pub returns : goal.returns
returns c = one_change
