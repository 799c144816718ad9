use Rattle.std.proofs.Common.{◌+◌, ◌*◌, [], drop}
use Rattle.rooms_val.specs.Data.{depth, items_of, items_depth, members_of, members_depth}
use Rattle.rooms_val.specs.View.{data_of, items_view, pairs_view}
use Rattle.field_ops.specs.Wire.{patch_pairs}
use Rattle.field_ops.proofs.WireLemmas.{read_at}
use Rattle.field_ops.proofs.WalkLemmas.{Going}
use Rattle.field_ops.proofs.+read.Given as goal

abbrev pub decreases-value_op::ValueOp::read : goal.decreases-value_op::ValueOp::read
decreases-value_op::ValueOp::read l = 2 * depth (data_of l.val.now)

abbrev pub decreases-value_op::read_patch : goal.decreases-value_op::read_patch
decreases-value_op::read_patch l = 2 * items_depth (items_of (items_view l.args.now)) + 1

abbrev pub decreases-object_diff::ObjectDiff::read : goal.decreases-object_diff::ObjectDiff::read
decreases-object_diff::ObjectDiff::read l = 2 * members_depth (members_of l.fields.now) + 1

abbrev pub invariant-object_diff::ObjectDiff::read-loop-key : goal.invariant-object_diff::ObjectDiff::read-loop-key
invariant-object_diff::ObjectDiff::read-loop-key l = Going read_at (pairs_view l.key-items) [] (drop l.key-index l.key-items) (patch_pairs l.diff)
