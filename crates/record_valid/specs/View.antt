-- The check that a `Check` stands for, one level at a time: a check inside is already seen as its tree.
use Rattle.std.specs.Prelude.{ℕ, List}
use Rattle.std.specs.Prelude as std
use Rattle.record_valid.specs.Tree.{CheckTree, whole, text, one_of, boolean, key, id_of, nullable, list_of, dict, object, by_type, any, rows_of, Table}
use Rattle.record_valid.specs.declared.tree.Check.{Check}
use Rattle.record_valid.specs.declared.tree.Check.TheVariants as c

-- the tree of a check
abbrev pub tree_of : Check → CheckTree
tree_of (c.Whole least most) = whole least most
tree_of (c.Text most) = text most
tree_of (c.Enum texts) = one_of texts
tree_of c.Bool = boolean
tree_of c.Key = key
tree_of (c.Id types) = id_of types
tree_of (c.Nullable inner) = nullable inner
tree_of (c.ListOf inner) = list_of inner
tree_of c.Dict = dict
tree_of (c.Object rows) = object (rows_of rows)
tree_of (c.ByType rows) = by_type (rows_of rows)
tree_of c.Any = any

-- the table of a list of entries
abbrev pub table_view : List (List ℕ × Check) → Table
table_view es = std.map (λ e. (e.0, tree_of e.1)) es
