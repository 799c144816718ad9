-- What operations make of values, maps and records.
use Rattle.std.specs.Prelude.{ℕ, List, ◌++◌, length, nat_eq, if◌then◌else◌, Option, Some, None, option_map}
use Rattle.rooms_val.specs.Data.{Data, null, boolean, whole, text, list, map, Pairs, items_of, list_of}
use Rattle.rooms_val.specs.Kinds.{on_map}
use Rattle.rooms_val.specs.Maps.{value_at, set_at}
use Rattle.field_ops.specs.ValueOps.{ValueOpTree, put, patch, append, append_text, delete, ValueOpTrees, no_edits, edit_at, edits_of}
use Rattle.field_ops.specs.RecordOps as change

-- a list of length n followed by another; what is no such list stays
abbrev pub appended : List Data → ℕ → Data → Data
appended ds n null = null
appended ds n (boolean b) = boolean b
appended ds n (whole z) = whole z
appended ds n (text s) = text s
appended ds n (list es) = if nat_eq (length (list_of es)) n then list (items_of (list_of es ++ ds)) else list es
appended ds n (map ms) = map ms

-- a text of n bytes followed by another; what is no such text stays
abbrev pub lengthened : List ℕ → ℕ → Data → Data
lengthened more n null = null
lengthened more n (boolean b) = boolean b
lengthened more n (whole z) = whole z
lengthened more n (text s) = if nat_eq (length s) n then text (s ++ more) else text s
lengthened more n (list es) = list es
lengthened more n (map ms) = map ms

abbrev mutual
  -- what an operation makes of the value at a key, or of no value
  pub edited : ValueOpTree → Option Data → Option Data
  edited (put d) old = Some d
  edited (patch es) old = option_map (on_map (λ f. patched es f)) old
  edited (append ds n) old = option_map (appended ds n) old
  edited (append_text s n) old = option_map (lengthened s n) old
  edited delete old = None

  -- the map with each key that a patch names set to what its operation makes of the key's value
  pub patched : ValueOpTrees → Pairs → Pairs
  patched no_edits f = f
  patched (edit_at k e es) f = set_at (patched es f) k (edited e (value_at f k))

-- what a key's value becomes where perhaps an operation names the key
abbrev pub value_after : Option ValueOpTree → Option Data → Option Data
value_after None old = old
value_after (Some e) old = edited e old

-- what a record, or no record, becomes under an operation
abbrev pub raw : change.RecordOpTree → Option Data → Option Data
raw (change.put d) r = Some d
raw (change.patch p) r = option_map (on_map (λ f. patched (edits_of p) f)) r
raw change.remove r = None
