use Rattle.std.proofs.Common.{ℕ, List, [], Option, option_map, drop}
use Rattle.rooms_val.specs.Data.{Data}
use Rattle.field_ops.specs.View.{edit_of, patch_view}
use Rattle.field_ops.specs.Wire.{edit_data, patch_pairs}
use Rattle.field_ops.specs.declared.value_op.ValueOp.{ValueOp}
use Rattle.field_ops.proofs.WalkLemmas.{Going}
use Rattle.field_ops.proofs.+print.Given as goal

-- what a key gives: the value of its operation
abbrev pub sent_at : List ℕ → Option ℕ → Option ValueOp → Option Data
sent_at q _ op = option_map (λ o. edit_data (edit_of o)) op

abbrev pub invariant-object_diff::ObjectDiff::to_fields-loop-key : goal.invariant-object_diff::ObjectDiff::to_fields-loop-key
invariant-object_diff::ObjectDiff::to_fields-loop-key l = Going sent_at (patch_pairs (patch_view l.key-items)) [] (drop l.key-index l.key-items) l.fields
