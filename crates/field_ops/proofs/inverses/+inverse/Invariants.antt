use Rattle.std.proofs.Common.{ℕ, ◌+◌, ◌*◌, List, [], Option, drop}
use Rattle.std.specs.Option.{option_and_then}
use Rattle.rooms_val.specs.Data.{Pairs}
use Rattle.field_ops.specs.ValueOps.{ValueOpTree, edits_of, edit_depth, edits_depth}
use Rattle.rooms_val.specs.Maps.{value_at}
use Rattle.field_ops.specs.Inverses as inverted
use Rattle.field_ops.specs.View.{edit_of}
use Rattle.field_ops.specs.declared.value_op.ValueOp.{ValueOp}
use Rattle.field_ops.proofs.WalkLemmas.{Going}
use Rattle.field_ops.proofs.inverses.+inverse.Given as goal

abbrev pub decreases-inverse_object : goal.decreases-inverse_object
decreases-inverse_object l = 3 * edits_depth (edits_of l.diff.now) + 1

abbrev pub decreases-undo : goal.decreases-undo
decreases-undo l = 3 * edit_depth (edit_of l.op.now)

abbrev pub decreases-undo_patch : goal.decreases-undo_patch
decreases-undo_patch l = 3 * edits_depth (edits_of l.diff.now) + 2

-- what a key gives: the operation that brings its value back
abbrev pub undone_at : Pairs → List ℕ → Option ℕ → Option ValueOp → Option ValueOpTree
undone_at f q _ op = option_and_then (λ o. inverted.undo (edit_of o) (value_at f q)) op

abbrev pub invariant-inverse_object-loop-key : goal.invariant-inverse_object-loop-key
invariant-inverse_object-loop-key l = Going (undone_at l.fn.map) (inverted.inverted (edits_of l.fn.diff) l.fn.map) [] (drop l.key-index l.key-items) l.result
