use Rattle.std.proofs.Common.{ℕ, ◌+◌, ◌*◌, ◌≤◌, List, Option, length}
use Rattle.std.specs.Option.{option_copied}
use Rattle.field_ops.specs.ValueOps.{ValueOpTree, edits_of, edit_depth, edits_depth}
use Rattle.field_ops.specs.Compose as joined
use Rattle.field_ops.specs.View.{edit_of, maybe_edit}
use Rattle.field_ops.specs.declared.value_op.ValueOp.{ValueOp}
use Rattle.field_ops.proofs.FallsLemmas.{maybe_depth, ops_depth}
use Rattle.field_ops.proofs.WalkLemmas.{Going}
use Rattle.field_ops.proofs.compose.+then.Given as goal

abbrev pub decreases-both : goal.decreases-both
decreases-both l = 3 * edits_depth (edits_of l.second.now) + 2

abbrev pub decreases-both_at : goal.decreases-both_at
decreases-both_at l = 3 * maybe_depth (maybe_edit (option_copied l.second)) + 1

abbrev pub decreases-after : goal.decreases-after
decreases-after l = 3 * edit_depth (edit_of l.second.now)

-- what a key gives: its operation after both patches
abbrev pub joined_at : List ℕ → Option ValueOp → Option ValueOp → Option ValueOpTree
joined_at q first second = joined.edit_after (maybe_edit second) (maybe_edit first)

abbrev pub invariant-both-keys : goal.invariant-both-keys
invariant-both-keys l = record {
  going : Going joined_at (joined.both (edits_of l.fn.second) l.fn.first) l.firsts l.seconds l.result;
  depth : ops_depth l.seconds ≤ edits_depth (edits_of l.fn.second);
}

abbrev pub decreases-both-keys : goal.decreases-both-keys
decreases-both-keys l = length l.firsts + length l.seconds
