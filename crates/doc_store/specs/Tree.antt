-- The slots that the entries of a tree stand for.
use Rattle.std.specs.Prelude.{List, Option, string_bytes, map}
use Rattle.std.specs.declared.string.String.{String}
use Rattle.rooms_val.specs.declared.val.Val.{Val}
use Rattle.field_ops.specs.View.{maybe_data}
use Rattle.doc_store.specs.Slots.{Slots}

abbrev pub slots_view : {Y : Type 0} → List (String Y × Option Val) → Slots
slots_view es = map (λ e. (string_bytes e.0, maybe_data e.1)) es
