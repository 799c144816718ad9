-- The indices that new shapes get.
use Rattle.std.specs.Prelude.{ℕ, List, [], ◌∷◌, Bool, false, not, ◌&&◌, if◌then◌else◌, map, filter, Option, Some, None, Result, Ok, Err, codes}
use Rattle.std.specs.List.{fold}
use Rattle.std.specs.Option.{option_map_or}
use Rattle.std.specs.Ordering.{is_lt}
use Rattle.rooms_val.specs.Data.{Data, Pairs, text}
use Rattle.rooms_val.specs.Kinds.{on_map}
use Rattle.rooms_val.specs.Maps.{order, with_key}
use Rattle.field_ops.specs.RecordOps.{RecordOpTree, put, patch, remove, RecordOps}
use Rattle.schema_core.specs.Tree.{SchemaTree}
use Rattle.schema_core.specs.Admits.{first_fault}
use Rattle.doc_model.specs.Documents.{fold_raw}
use Rattle.index_keys.specs.Between.{between}
use Rattle.index_keys.specs.declared.fault.BetweenFault.{BetweenFault}
use Rattle.shape_tree.specs.Records.{is_shape}
use Rattle.shape_tree.specs.Trees.{is_child}
use Rattle.side_effects.specs.Records.{parent_of, index_of, lacks_index, has}
use Rattle.side_effects.specs.declared.fault.EditFault.{EditFault}
use Rattle.side_effects.specs.declared.fault.EditFault.TheVariants.{Invalid, NoKey}

-- the operation puts a shape that isn't there, in a map without the key `index`
abbrev pub is_unplaced : Pairs → List ℕ → RecordOpTree → Bool
is_unplaced m id (put d) = is_shape id && not (has m id) && lacks_index d
is_unplaced m id (patch p) = false
is_unplaced m id remove = false

-- the operations of a diff that put such a shape, and the others
abbrev pub unplaced : Pairs → RecordOps → RecordOps
unplaced m wanted = filter (λ c. is_unplaced m c.0 c.1) wanted

abbrev pub placed : Pairs → RecordOps → RecordOps
placed m wanted = filter (λ c. not (is_unplaced m c.0 c.1)) wanted

-- the greater of an index, if there is one, and another
abbrev pub greater : Option (List ℕ) → List ℕ → Option (List ℕ)
greater None index = Some index
greater (Some held) index = Some (if is_lt (order held index) then index else held)

-- the greatest index among the children of a parent, if it has any
abbrev pub greatest_index : Pairs → List ℕ → Option (List ℕ)
greatest_index m parent = fold greater None (map (λ e. index_of e.1) (filter (is_child parent) m))

-- the record with an index, where it is a map
abbrev pub with_index : Data → List ℕ → Data
with_index d key = on_map (λ ps. with_key ps (codes "index") (text key)) d

-- the put of a record that is admitted under its id
abbrev pub put_if_admitted : SchemaTree → List ℕ → Data → Result RecordOpTree EditFault
put_if_admitted s id d = option_map_or (λ fault. Err (Invalid id fault)) (first_fault s id d) (Ok (put d))

-- what comes next of a result, unless the result is a refusal
abbrev pub and_then : {A B : Type 0} → Result A EditFault → (A → Result B EditFault) → Result B EditFault
and_then (Ok x) next = next x
and_then (Err fault) next = Err fault

-- a key, or that there is none
abbrev pub or_no_key : Result (List ℕ) BetweenFault → Result (List ℕ) EditFault
or_no_key (Ok key) = Ok key
or_no_key (Err fault) = Err (NoKey fault)

-- the put of a record with an index behind one, if there is one
abbrev pub put_behind : SchemaTree → List ℕ → Data → Option (List ℕ) → Result RecordOpTree EditFault
put_behind s id d last = and_then (or_no_key (between last None)) (λ key. put_if_admitted s id (with_index d key))

-- a put gets an index behind its parent's children in a document
abbrev pub placing : SchemaTree → Pairs → List ℕ → RecordOpTree → Result RecordOpTree EditFault
placing s m id (put d) = put_behind s id d (greatest_index m (parent_of d))
placing s m id (patch p) = Ok (patch p)
placing s m id remove = Ok remove

-- a diff with the puts of new shapes, each behind the children that its parent has so far
abbrev pub all_placed : SchemaTree → Pairs → RecordOps → RecordOps → Result RecordOps EditFault
all_placed s m diff [] = Ok diff
all_placed s m diff (c ∷ more) = and_then (placing s (fold_raw m diff) c.0 c.1) (λ op. all_placed s m (with_key diff c.0 op) more)
