-- The operations that the code's values stand for, one level at a time: a patch inside is already seen as its pairs.
use Rattle.std.specs.Prelude.{ℕ, List, Option, option_map}
use Rattle.rooms_val.specs.Data.{Data}
use Rattle.rooms_val.specs.Maps.{seen}
use Rattle.rooms_val.specs.View.{data_of}
use Rattle.rooms_val.specs.declared.val.Val.{Val}
use Rattle.field_ops.specs.ValueOps.{ValueOpTree, put, patch, append, append_text, delete, edits_of, Patch}
use Rattle.field_ops.specs.declared.value_op.ValueOp.{ValueOp}
use Rattle.field_ops.specs.declared.value_op.ValueOp.TheVariants as v

abbrev pub edit_of : ValueOp → ValueOpTree
edit_of (v.Put val) = put (data_of val)
edit_of (v.Patch p) = patch (edits_of p)
edit_of (v.Append ds n) = append ds n
edit_of (v.AppendText s n) = append_text s n
edit_of v.Delete = delete

abbrev pub patch_view : List (List ℕ × ValueOp) → Patch
patch_view es = seen edit_of es

-- the value, where there is one
abbrev pub maybe_data : Option Val → Option Data
maybe_data o = option_map data_of o

-- the operation, where there is one
abbrev pub maybe_edit : Option ValueOp → Option ValueOpTree
maybe_edit o = option_map edit_of o
