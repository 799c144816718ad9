use Rattle.field_ops.proofs.WireLemmas.{one_diff}
use Rattle.field_ops.proofs.laws.one_diff_each.Goals as goal

pub returns : goal.returns
returns c = one_diff
