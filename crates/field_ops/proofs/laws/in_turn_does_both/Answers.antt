use Rattle.field_ops.proofs.ComposeLemmas.{does_both}
use Rattle.field_ops.proofs.laws.in_turn_does_both.Goals as goal

pub returns : goal.returns
returns c = does_both
