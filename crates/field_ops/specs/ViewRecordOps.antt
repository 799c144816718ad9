-- The operations on records that the code's values stand for.
use Rattle.std.specs.Prelude.{ℕ, List, Option, option_map}
use Rattle.rooms_val.specs.Maps.{seen}
use Rattle.rooms_val.specs.View.{data_of, val_of}
use Rattle.field_ops.specs.RecordOps.{RecordOpTree, put, patch, remove, RecordOps}
use Rattle.field_ops.specs.declared.record_op.RecordOp.{RecordOp}
use Rattle.field_ops.specs.declared.record_op.RecordOp.TheVariants as v

abbrev pub change_of : RecordOp → RecordOpTree
change_of (v.Put val) = put (data_of val)
change_of (v.Patch p) = patch p
change_of v.Remove = remove

-- the `RecordOp` that stands for an operation; there is one
abbrev pub op_of : RecordOpTree → RecordOp
op_of (put d) = v.Put (val_of d)
op_of (patch p) = v.Patch p
op_of remove = v.Remove

abbrev pub changes_view : List (List ℕ × RecordOp) → RecordOps
changes_view es = seen change_of es

-- the operation, where there is one
abbrev pub maybe_change : Option RecordOp → Option RecordOpTree
maybe_change o = option_map change_of o
