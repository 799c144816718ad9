use Rattle.std.proofs.Common.{ℕ, ◌+◌, ◌*◌, drop}
use Rattle.field_ops.specs.ValueOps.{edits_of, edit_depth, edits_depth}
use Rattle.field_ops.specs.Patched.{patched}
use Rattle.field_ops.specs.View.{edit_of}
use Rattle.field_ops.proofs.ApplyLemmas.{IsLeft}
use Rattle.field_ops.proofs.apply.+apply.Given as goal

abbrev pub decreases-apply_object : goal.decreases-apply_object
decreases-apply_object l = 3 * edits_depth (edits_of l.diff.now) + 1

abbrev pub decreases-edited_val : goal.decreases-edited_val
decreases-edited_val l = 3 * edit_depth (edit_of l.op.now)

abbrev pub decreases-patched_val : goal.decreases-patched_val
decreases-patched_val l = 3 * edits_depth (edits_of l.diff.now) + 2

-- the operations that are left make the patched map of the map so far
abbrev pub invariant-apply_object-ops : goal.invariant-apply_object-ops
invariant-apply_object-ops l = IsLeft (patched (edits_of l.fn.diff) l.fn.map) (drop l.key-index l.key-items) l.result
