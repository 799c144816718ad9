-- The operation or diff for which a value stands, if any.
use Rattle.std.specs.Prelude.{ℕ, ◌^◌, nat_lt, pos, List, [], ◌∷◌, if◌then◌else◌, codes, Option, Some, None, option_map, option_and_then}
use Rattle.std.specs.Str.{bytes_eq}
use Rattle.rooms_val.specs.Data as value
use Rattle.rooms_val.specs.Data.{Data, Items, Members, Pairs, list_of, pairs_of}
use Rattle.field_ops.specs.ValueOps as edit
use Rattle.field_ops.specs.ValueOps.{ValueOpTree, ValueOpTrees, patch_of}
use Rattle.field_ops.specs.RecordOps as change
use Rattle.field_ops.specs.RecordOps.{RecordOpTree, RecordOps}

-- what was found, where the name is the given one
abbrev pub if_named : {A : Type 0} → List ℕ → List ℕ → Option A → Option A
if_named name given found = if bytes_eq given name then found else None

-- `["append",list,offset]` or `["append",text,offset]`, with an offset of 32 bits
abbrev pub append_of : List ℕ → Data → Data → Option ValueOpTree
append_of name (value.list ds) (value.whole (pos n)) = if nat_lt n (2 ^ 32) then if_named (codes "append") name (Some (edit.append (list_of ds) n)) else None
append_of name (value.text s) (value.whole (pos n)) = if nat_lt n (2 ^ 32) then if_named (codes "append") name (Some (edit.append_text s n)) else None
append_of name _ _ = None

abbrev mutual
  -- the operation on a value: `["put",v]`, `["patch",{..}]`, `["append",list,offset]`, `["append",text,offset]` or
  -- `["delete"]`
  pub value_op_of_data : Data → Option ValueOpTree
  value_op_of_data (value.list (value.item (value.text name) value.no_items)) = if_named (codes "delete") name (Some edit.delete)
  value_op_of_data (value.list (value.item (value.text name) (value.item (value.map ms) value.no_items))) =
      if bytes_eq name (codes "put") then Some (edit.put (value.map ms)) else if_named (codes "patch") name (option_map edit.patch (value_ops_of_members ms))
  value_op_of_data (value.list (value.item (value.text name) (value.item d value.no_items))) = if_named (codes "put") name (Some (edit.put d))
  value_op_of_data (value.list (value.item (value.text name) (value.item d (value.item e value.no_items)))) = append_of name d e
  value_op_of_data _ = None

  -- the operations on the values under keys
  pub value_ops_of_members : Members → Option ValueOpTrees
  value_ops_of_members value.no_members = Some edit.no_edits
  value_ops_of_members (value.member k d ms) = option_and_then (λ e. option_map (edit.edit_at k e) (value_ops_of_members ms)) (value_op_of_data d)

-- the operation on a record: `["put",record]`, `["patch",{..}]` or `["remove"]`
abbrev pub op_of_data : Data → Option RecordOpTree
op_of_data (value.list (value.item (value.text name) value.no_items)) = if_named (codes "remove") name (Some change.remove)
op_of_data (value.list (value.item (value.text name) (value.item (value.map ms) value.no_items))) =
    if bytes_eq name (codes "put") then Some (change.put (value.map ms)) else if_named (codes "patch") name (option_map (λ es. change.patch (patch_of es)) (value_ops_of_members ms))
op_of_data (value.list (value.item (value.text name) (value.item d value.no_items))) = if_named (codes "put") name (Some (change.put d))
op_of_data _ = None

-- the operations on records under their ids
abbrev pub diff_of_pairs : Pairs → Option RecordOps
diff_of_pairs [] = Some []
diff_of_pairs (p ∷ ps) = option_and_then (λ c. option_map (λ cs. (p.0, c) ∷ cs) (diff_of_pairs ps)) (op_of_data p.1)

-- the diff: a map from ids to operations on records
abbrev pub diff_of_data : Data → Option RecordOps
diff_of_data (value.map ms) = diff_of_pairs (pairs_of ms)
diff_of_data _ = None
