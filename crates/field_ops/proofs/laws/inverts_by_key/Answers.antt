use Rattle.field_ops.specs.ValueOps.{edits_of}
use Rattle.field_ops.proofs.PatchedLemmas.{at-inverted, rising-inverted}
use Rattle.field_ops.proofs.laws.inverts_by_key.Goals as goal

pub returns : goal.returns
returns c p f = (rising-inverted (edits_of p) f, at-inverted p f)
