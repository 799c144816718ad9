use Rattle.std.proofs.Common.{◌≡◌, drop}
use Rattle.field_ops.specs.ValueOps.{edits_of, edits_have_append}
use Rattle.field_ops.specs.View.{patch_view}
use Rattle.field_ops.proofs.+has_append.Given as goal

-- the answer for all is the answer for what is left
abbrev pub invariant-object_diff::ObjectDiff::has_append-loop-op : goal.invariant-object_diff::ObjectDiff::has_append-loop-op
invariant-object_diff::ObjectDiff::has_append-loop-op l = edits_have_append (edits_of (patch_view (drop l.op-index l.op-items))) ≡ edits_have_append (edits_of l.fn.self)
