use Rattle.field_ops.proofs.PatchedLemmas.{at-patched}
use Rattle.field_ops.proofs.laws.patches_by_key.Goals as goal

pub returns : goal.returns
returns c = at-patched
