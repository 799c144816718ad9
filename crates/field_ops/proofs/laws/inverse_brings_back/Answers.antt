use Rattle.field_ops.proofs.ComposeLemmas.{brings_back}
use Rattle.field_ops.proofs.laws.inverse_brings_back.Goals as goal

pub returns : goal.returns
returns c = brings_back
