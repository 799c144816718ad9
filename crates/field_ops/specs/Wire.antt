-- The value by which an operation is sent and kept: a list that begins with its name.
use Rattle.std.specs.Prelude.{◌≡◌, ℕ, ℤ, pos, negsuc, List, refl, codes, length, nat_eq, if◌then◌else◌}
use Rattle.std.specs.Coded.{Coded, code_by, coded×, coded_list, coded_ℕ}
use mathlib.Core.Path.{ap}
use Rattle.rooms_val.specs.Data.{Data, null, boolean, whole, text, list, map, Items, no_items, item, Members, no_members, member, items_of, list_of, Pairs}
use Rattle.rooms_val.specs.Code.{coded_data}
use Rattle.rooms_val.specs.Maps.{seen}
use Rattle.rooms_val.proofs.DataLemmas.{list_of-items_of}
use Rattle.field_ops.specs.ValueOps.{ValueOpTree, put, patch, append, append_text, delete, ValueOpTrees, no_edits, edit_at, Patch}

-- the list of a name and what follows it
abbrev pub named : List ℕ → Items → Data
named name ds = list (item (text name) ds)

-- the value of an append: what is appended, and the offset
abbrev pub append_data : Data → ℕ → Data
append_data what n = named (codes "append") (item what (item (whole (pos n)) no_items))

-- what is appended is a list or a text
abbrev pub IsAppendable : Data → Type 0
IsAppendable null = ⊥
IsAppendable (boolean b) = ⊥
IsAppendable (whole z) = ⊥
IsAppendable (text s) = Unit {0}
IsAppendable (list ds) = Unit {0}
IsAppendable (map ms) = ⊥

abbrev mutual
  -- the value of an operation on a value
  pub edit_data : ValueOpTree → Data
  edit_data (put d) = named (codes "put") (item d no_items)
  edit_data (patch es) = named (codes "patch") (item (map (edits_data es)) no_items)
  edit_data (append ds n) = append_data (list (items_of ds)) n
  edit_data (append_text s n) = append_data (text s) n
  edit_data delete = named (codes "delete") no_items

  -- the map of a patch
  pub edits_data : ValueOpTrees → Members
  edits_data no_edits = no_members
  edits_data (edit_at k e es) = member k (edit_data e) (edits_data es)

-- the pairs of that map
abbrev pub patch_pairs : Patch → Pairs
patch_pairs p = seen edit_data p

abbrev number_in : ℤ → ℕ
number_in (pos n) = n
number_in (negsuc n) = 0

abbrev mutual
  -- the operation that a value is, where it is one
  pub edit_in : Data → ValueOpTree
  edit_in (list (item (text name) (item (map ms) no_items))) = if nat_eq (length name) 5 then patch (edits_in ms) else put (map ms)
  edit_in (list (item name (item d no_items))) = put d
  edit_in (list (item name (item (list ds) (item (whole z) no_items)))) = append (list_of ds) (number_in z)
  edit_in (list (item name (item (text s) (item (whole z) no_items)))) = append_text s (number_in z)
  edit_in d = delete

  pub edits_in : Members → ValueOpTrees
  edits_in no_members = no_edits
  edits_in (member k d ms) = edit_at k (edit_in d) (edits_in ms)

-- a put, as it is read
pub put_in : (d : Data) → edit_in (edit_data (put d)) ≡ put d
put_in null = refl
put_in (boolean b) = refl
put_in (whole z) = refl
put_in (text s) = refl
put_in (list ds) = refl
put_in (map ms) = refl

-- each value is that of one operation at most
abbrev mutual
  pub edit_in-edit_data : (e : ValueOpTree) → edit_in (edit_data e) ≡ e
  edit_in-edit_data (put d) = put_in d
  edit_in-edit_data (patch es) = ap patch (edits_in-edits_data es)
  edit_in-edit_data (append ds n) = ap (λ l. append l n) (list_of-items_of ds)
  edit_in-edit_data (append_text s n) = refl
  edit_in-edit_data delete = refl

  pub edits_in-edits_data : (es : ValueOpTrees) → edits_in (edits_data es) ≡ es
  edits_in-edits_data no_edits = refl
  edits_in-edits_data (edit_at k e es) = λ i. edit_at k (edit_in-edit_data e i) (edits_in-edits_data es i)

abbrev pub coded_edit : Coded ValueOpTree
coded_edit = code_by Data coded_data edit_data edit_in edit_in-edit_data

abbrev pub coded_patch : Coded Patch
coded_patch = coded_list (coded× (coded_list coded_ℕ) coded_edit)
