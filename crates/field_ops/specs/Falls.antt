-- Each operation inside a patch is less deep than the patch.
use Rattle.std.specs.Prelude.{◌≤◌, ℕ, suc, max, List, [], ◌∷◌}
use Rattle.std.proofs.Common.{arith}
use denote.Param.Weighed.{most}
use Rattle.field_ops.specs.ValueOps.{edit_depth, edits_of, edits_depth}
use Rattle.field_ops.specs.View.{edit_of, patch_view}
use Rattle.field_ops.specs.declared.value_op.ValueOp.{ValueOp}
use Rattle.field_ops.specs.declared.value_op.ValueOp.TheVariants.{Put, Patch, Append, AppendText, Delete}
use Rattle.field_ops.specs.declared.object_diff.ObjectDiff.TheDeep.{deep-ValueOp}
use Rattle.field_ops.specs.declared.object_diff.ObjectDiff.TheShapes.{weighed-ObjectDiff-entries-at-2 as weighed_entry}

-- no `ValueOp` is deeper than its operation, by the depth that the logic counts from one level on
deep_le-depth : (v : ValueOp) → deep-ValueOp v ≤ suc (edit_depth (edit_of v))
deep_le-depth (Put d) = omega arith
deep_le-depth (Patch p) = omega arith
deep_le-depth (Append ds n) = omega arith
deep_le-depth (AppendText s n) = omega arith
deep_le-depth Delete = omega arith

pub patch_fall : (es : List (List ℕ × ValueOp)) → max (most (λ e. weighed_entry.weight ValueOp deep-ValueOp e) es) 0 ≤ suc (edits_depth (edits_of (patch_view es)))
patch_fall [] = omega arith
patch_fall (e ∷ es) = omega (arith, deep_le-depth e.1, patch_fall es)
