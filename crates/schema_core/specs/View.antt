-- What the rows of types stand for.
use Rattle.std.specs.Prelude.{ℕ, List}
use Rattle.std.specs.Prelude as std
use Rattle.rooms_val.specs.Maps.{seen}
use Rattle.record_valid.specs.View.{tree_of}
use Rattle.schema_core.specs.Tree.{TypeTree, Types}
use Rattle.schema_core.specs.declared.row.RecordType.{RecordType}
use Rattle.schema_core.specs.declared.row.TypeRow.{TypeRow}

-- what is said of a type
abbrev pub type_tree : RecordType → TypeTree
type_tree t = record { scope = t.scope; check = tree_of t.check }

abbrev pub types_view : List (List ℕ × RecordType) → Types
types_view es = seen type_tree es

-- the name of a row, with what is said of the type
abbrev pub row_tree : TypeRow → List ℕ × TypeTree
row_tree r = (r.name, record { scope = r.scope; check = tree_of r.check })

abbrev pub rows_view : List TypeRow → Types
rows_view rows = std.map row_tree rows
