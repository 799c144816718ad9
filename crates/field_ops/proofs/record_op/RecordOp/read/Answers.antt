use Rattle.rooms_val.specs.View.{items_view}
use Rattle.field_ops.proofs.WireLemmas.{no_remove, no_change, no_view}
use Rattle.field_ops.proofs.record_op.RecordOp.read.Goals as goal

pub returns-else-is_empty-clause-only : goal.returns-else-is_empty-clause-only
returns-else-is_empty-clause-only c _ op sound is = no_remove _ (items_view c.in-Some.args.now) c.in-Some.ensures.found (no_view c.in-Some.args.now c.if-is_empty.ensures) op is

pub returns-in_err-val-clause-only : goal.returns-in_err-val-clause-only
returns-in_err-val-clause-only c wrong op sound is = no_change _ c.in_default.ensures.only (c.in_err-val.ensures.only (let from = rw wrong at c.from_residual.ensures.1 in cc)) op sound is
