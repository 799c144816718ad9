-- Each `RecordOp` is the one that stands for its operation.
use Rattle.std.proofs.Common.{◌≡◌, refl, sym, ap, ◌∙◌}
use Rattle.rooms_val.proofs.DataLemmas.{val_of-data_of}
use Rattle.field_ops.specs.ViewRecordOps.{change_of, op_of}
use Rattle.field_ops.specs.declared.record_op.RecordOp.{RecordOp}
use Rattle.field_ops.specs.declared.record_op.RecordOp.TheVariants as v

op_of-change_of : (op : RecordOp) → op_of (change_of op) ≡ op
op_of-change_of (v.Put x) = ap v.Put (val_of-data_of x)
op_of-change_of (v.Patch p) = refl
op_of-change_of v.Remove = refl

pub same_op : (a b : RecordOp) → change_of a ≡ change_of b → a ≡ b
same_op a b same = sym (op_of-change_of a) ∙ ap op_of same ∙ op_of-change_of b
