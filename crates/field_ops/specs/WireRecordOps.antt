-- The value by which an operation on a record, or a diff, is sent and kept.
use Rattle.std.specs.Prelude.{◌≡◌, [], ◌∷◌, refl, codes, length, nat_eq, if◌then◌else◌}
use Rattle.std.specs.Coded.{Coded, code_by, coded×, coded_list, coded_ℕ}
use mathlib.Core.Path.{ap, ◌∙◌}
use Rattle.rooms_val.specs.Data.{Data, null, boolean, whole, text, list, map, no_items, item, Pairs, members_of}
use Rattle.rooms_val.specs.Maps.{seen}
use Rattle.rooms_val.specs.Code.{coded_data}
use Rattle.field_ops.specs.ValueOps.{Patch, patch_of, edits_of}
use Rattle.field_ops.specs.RecordOps.{RecordOpTree, put, patch, remove, RecordOps}
use Rattle.field_ops.specs.Wire.{named, edits_data, edits_in, edits_in-edits_data}

-- the value of an operation on a record
abbrev pub change_data : RecordOpTree → Data
change_data (put d) = named (codes "put") (item d no_items)
change_data (patch p) = named (codes "patch") (item (map (edits_data (edits_of p))) no_items)
change_data remove = named (codes "remove") no_items

-- the map of a diff
abbrev pub diff_pairs : RecordOps → Pairs
diff_pairs cs = seen change_data cs

abbrev pub diff_data : RecordOps → Data
diff_data cs = map (members_of (diff_pairs cs))

-- the operation that a value is, where it is one
abbrev pub change_in : Data → RecordOpTree
change_in (list (item (text name) (item (map ms) no_items))) = if nat_eq (length name) 5 then patch (patch_of (edits_in ms)) else put (map ms)
change_in (list (item name (item d no_items))) = put d
change_in d = remove

pub put_in : (d : Data) → change_in (change_data (put d)) ≡ put d
put_in null = refl
put_in (boolean b) = refl
put_in (whole z) = refl
put_in (text s) = refl
put_in (list ds) = refl
put_in (map ms) = refl

pub patch_of-edits_of : (p : Patch) → patch_of (edits_of p) ≡ p
patch_of-edits_of [] = refl
patch_of-edits_of (e ∷ p) = ap (λ rest. e ∷ rest) (patch_of-edits_of p)

-- each value is that of one operation at most
abbrev pub change_in-change_data : (c : RecordOpTree) → change_in (change_data c) ≡ c
change_in-change_data (put d) = put_in d
change_in-change_data (patch p) = ap (λ es. patch (patch_of es)) (edits_in-edits_data (edits_of p)) ∙ ap patch (patch_of-edits_of p)
change_in-change_data remove = refl

abbrev coded_change : Coded RecordOpTree
coded_change = code_by Data coded_data change_data change_in change_in-change_data

abbrev pub coded_changes : Coded RecordOps
coded_changes = coded_list (coded× (coded_list coded_ℕ) coded_change)
