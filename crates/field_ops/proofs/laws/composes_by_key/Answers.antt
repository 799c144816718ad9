use Rattle.field_ops.specs.ValueOps.{edits_of}
use Rattle.field_ops.proofs.PatchedLemmas.{at-both, rising-both}
use Rattle.field_ops.proofs.laws.composes_by_key.Goals as goal

pub returns : goal.returns
returns c p q = (rising-both (edits_of q) p, at-both q p)
