use Rattle.std.proofs.Common.{ℕ, List, [], Option, option_map, drop}
use Rattle.rooms_val.specs.Data.{Data}
use Rattle.field_ops.specs.ViewRecordOps.{change_of, changes_view}
use Rattle.field_ops.specs.WireRecordOps.{change_data, diff_pairs}
use Rattle.field_ops.specs.declared.record_op.RecordOp.{RecordOp}
use Rattle.field_ops.proofs.WalkLemmas.{Going}
use Rattle.field_ops.proofs.diff.Diff.to_val.Given as goal

-- what an id gives: the value of its operation
abbrev pub sent_at : List ℕ → Option ℕ → Option RecordOp → Option Data
sent_at q _ op = option_map (λ o. change_data (change_of o)) op

abbrev pub invariant-loop-id : goal.invariant-loop-id
invariant-loop-id l = Going sent_at (diff_pairs (changes_view l.id-items)) [] (drop l.id-index l.id-items) l.fields
