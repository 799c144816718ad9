-- What a paste adds to a document: the records of a clip under new ids.
use Rattle.std.specs.Prelude.{ℕ, ◌+◌, ◌/◌, ◌%◌, ℤ, ◌+ℤ◌, length, List, [], ◌∷◌, ◌++◌, Bool, not, if◌then◌else◌, map, filter, codes, unwrap_or, Option, Some, None, Result, Ok, Err}
use Rattle.std.specs.List.{find, fold, zip}
use Rattle.std.specs.Option.{option_map_or}
use Rattle.std.specs.Ordering.{is_lt}
use Rattle.rooms_val.specs.Data.{Data, Pairs, text, whole}
use Rattle.rooms_val.specs.Kinds.{on_map, text_at}
use Rattle.rooms_val.specs.Maps.{order, with_key}
use Rattle.field_ops.specs.RecordOps.{put, RecordOps}
use Rattle.index_keys.specs.Several.{Keys, several}
use Rattle.shape_tree.specs.Boxes.{coordinate}
use Rattle.shape_tree.specs.Sorting.{in_order}
use Rattle.shape_tree.specs.Trees.{Sibling, sibling_of, sibling_order}
use Rattle.side_effects.specs.Placed.{greatest_index}
use Rattle.side_effects.specs.Records.{parent_of, from_of, to_of, has}
use Rattle.room_model.specs.Clips.{ClipTree, TargetTree}
use Rattle.room_model.specs.declared.clip_fault.PasteFault.{PasteFault}
use Rattle.room_model.specs.declared.clip_fault.PasteFault.TheVariants.{Taken, NoKey}

-- the place of an id in a map: how many ids of the map come before it
abbrev pub place_in : Pairs → List ℕ → ℕ
place_in m id = length (filter (λ e. is_lt (order e.0 id)) m)

-- the last digit of a number, as a byte
abbrev pub last_digit : ℕ → ℕ
last_digit n = 48 + n % 10

-- the last four digits of a number
abbrev pub four_digits : ℕ → List ℕ
four_digits n = last_digit (n / 1000) ∷ last_digit (n / 100) ∷ last_digit (n / 10) ∷ last_digit n ∷ []

-- the new id of something of a type: the prefix and the place in the map that was copied
abbrev pub new_id : List ℕ → List ℕ → Pairs → List ℕ → List ℕ
new_id type prefix m id = type ++ prefix ++ four_digits (place_in m id)

module _ (clip : ClipTree) (target : TargetTree) where
  -- the new ids of a shape and of a binding
  abbrev pub new_shape : List ℕ → List ℕ
  new_shape id = new_id (codes "shape:") target.prefix clip.shapes id

  abbrev pub new_binding : List ℕ → List ℕ
  new_binding id = new_id (codes "binding:") target.prefix clip.bindings id

-- the parent of a shape isn't copied
abbrev pub is_top : ClipTree → Data → Bool
is_top clip d = not (has clip.shapes (parent_of d))

-- where those of some shapes stand whose parents aren't copied
abbrev pub tops_among : ClipTree → Pairs → List Sibling
tops_among clip shapes = map sibling_of (filter (λ e. is_top clip e.1) shapes)

-- where all of a clip stand
abbrev pub top_siblings : ClipTree → List Sibling
top_siblings clip = tops_among clip clip.shapes

-- these shapes by index and then by id
abbrev pub tops : ClipTree → List (List ℕ)
tops clip = map (λ s. s.id) (in_order sibling_order (top_siblings clip))

-- indices by id: to each id goes the key that stands where the id does
abbrev pub indices_of : List (List ℕ) → List (List ℕ) → Pairs
indices_of ids keys = fold (λ m e. with_key m e.0 (text e.1)) [] (zip ids keys)

-- the record with this under a key; what is no map stays
abbrev pub with_field : List ℕ → Data → Data → Data
with_field key v d = on_map (λ ps. with_key ps key v) d

-- the shape with an id and a parent
abbrev pub with_place : List ℕ → List ℕ → Data → Data
with_place id parent d = with_field (codes "parentId") (text parent) (with_field (codes "id") (text id) d)

-- the shape moved by so much, from 0 where it has no coordinate
abbrev pub moved_by : ℤ → ℤ → Data → Data
moved_by dx dy d =
    with_field (codes "y") (whole (coordinate (Some d) (codes "y") +ℤ dy))
    (with_field (codes "x") (whole (coordinate (Some d) (codes "x") +ℤ dx)) d)

module _ (clip : ClipTree) (target : TargetTree) where
  -- a shape with its new id, under the new id of its parent
  abbrev pub pasted_inner : List ℕ → Data → Data
  pasted_inner id d = with_place (new_shape clip target id) (new_shape clip target (parent_of d)) d

  -- a shape with its new id, under the parent of the paste, moved, and with an index
  abbrev pub pasted_top : List ℕ → List ℕ → Data → Data
  pasted_top index id d =
      with_field (codes "index") (text index)
      (with_place (new_shape clip target id) target.parent (moved_by target.dx target.dy d))

  -- a shape as it is pasted, with the indices of the tops
  abbrev pub pasted_shape : Pairs → List ℕ × Data → Data
  pasted_shape indices e =
      if is_top clip e.1 then pasted_top (unwrap_or (text_at indices e.0) []) e.0 e.1
      else pasted_inner e.0 e.1

  -- a binding with its new id, between the new ids of its ends
  abbrev pub pasted_binding : List ℕ × Data → Data
  pasted_binding e =
      with_field (codes "toId") (text (new_shape clip target (to_of e.1)))
      (with_field (codes "fromId") (text (new_shape clip target (from_of e.1)))
      (with_field (codes "id") (text (new_binding clip target e.0)) e.1))

  -- the shapes of a clip as they are pasted, under their new ids, and its bindings
  abbrev pub pasted_shapes : Pairs → Pairs
  pasted_shapes indices = map (λ e. (new_shape clip target e.0, pasted_shape indices e)) clip.shapes

  abbrev pub pasted_bindings : Pairs
  pasted_bindings = map (λ e. (new_binding clip target e.0, pasted_binding e)) clip.bindings

  -- the ids that a paste adds, which rise
  abbrev pub new_ids : List (List ℕ)
  new_ids = map (λ e. new_binding clip target e.0) clip.bindings ++ map (λ e. new_shape clip target e.0) clip.shapes

  -- the least of these that a document has
  abbrev pub first_taken : Pairs → Option (List ℕ)
  first_taken m = find (has m) new_ids

-- a diff that puts some records too
abbrev pub put_each : RecordOps → Pairs → RecordOps
put_each diff added = fold (λ diff e. with_key diff e.0 (put e.1)) diff added

-- the diff that puts some records
abbrev pub puts : Pairs → RecordOps
puts added = put_each [] added

-- keys, or that there are none
abbrev pub or_no_key : Keys → Result (List (List ℕ)) PasteFault
or_no_key (Ok keys) = Ok keys
or_no_key (Err fault) = Err (NoKey fault)

-- the diff that follows from keys, or the refusal that stands in their place
abbrev pub with_keys : Result (List (List ℕ)) PasteFault → (List (List ℕ) → RecordOps) → Result RecordOps PasteFault
with_keys (Ok keys) diff = Ok (diff keys)
with_keys (Err fault) diff = Err fault

-- the keys of the tops, behind all children that the parent has
abbrev pub keys_behind : ClipTree → Pairs → List ℕ → Keys
keys_behind clip m parent = several (greatest_index m parent) None (length (tops clip))

-- the diff that pastes a clip into a document, or the first reason why there is none
abbrev pub pasted : ClipTree → Pairs → TargetTree → Result RecordOps PasteFault
pasted clip m target =
    option_map_or (λ id. Err (Taken id)) (first_taken clip target m)
    (with_keys (or_no_key (keys_behind clip m target.parent)) (λ keys.
    puts (pasted_bindings clip target ++ pasted_shapes clip target (indices_of (tops clip) keys))))
