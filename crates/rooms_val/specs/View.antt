-- The value that a `Val` stands for, one level at a time: a list or map inside is already seen as what it holds.
use Rattle.std.specs.Prelude.{ℕ, List}
use Rattle.std.specs.Prelude as std
use Rattle.rooms_val.specs.Data.{Data, null, boolean, whole, text, list, map, items_of, members_of, Pairs, list_of, pairs_of}
use Rattle.rooms_val.specs.Maps.{seen}
use Rattle.rooms_val.specs.declared.val.Val.{Val}
use Rattle.rooms_val.specs.declared.val.Val.TheVariants as v
use Rattle.rooms_val.specs.declared.val.Kind.{Kind}
use Rattle.rooms_val.specs.declared.val.Kind.TheVariants as kind

abbrev pub data_of : Val → Data
data_of v.Null = null
data_of (v.Bool b) = boolean b
data_of (v.Int z) = whole z
data_of (v.Text s) = text s
data_of (v.List ds) = list (items_of ds)
data_of (v.Map ps) = map (members_of ps)

abbrev pub items_view : List Val → List Data
items_view vs = std.map data_of vs

abbrev pub pairs_view : List (List ℕ × Val) → Pairs
pairs_view es = seen data_of es

-- a field as its key and what its value stands for
abbrev pub field_of : List ℕ × Val → List ℕ × Data
field_of f = (f.0, data_of f.1)

abbrev pub kind_of : Val → Kind
kind_of v.Null = kind.Null
kind_of (v.Bool b) = kind.Bool
kind_of (v.Int z) = kind.Int
kind_of (v.Text s) = kind.Text
kind_of (v.List ds) = kind.List
kind_of (v.Map ps) = kind.Map

-- the `Val` that stands for a value; there is one
abbrev pub val_of : Data → Val
val_of null = v.Null
val_of (boolean b) = v.Bool b
val_of (whole z) = v.Int z
val_of (text s) = v.Text s
val_of (list ds) = v.List (list_of ds)
val_of (map ms) = v.Map (pairs_of ms)
