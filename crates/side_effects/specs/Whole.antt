-- What a document needs to be whole where an edit changed it.
use Rattle.std.specs.Prelude.{ℕ, List, Bool, true, not, ◌&&◌, ◌||◌, if◌then◌else◌, length, Option, Some, None, option_map, option_and_then, option_to_list, bytes_eq}
use Rattle.std.specs.List.{list_any}
use Rattle.std.specs.Option.{option_map_or}
use Rattle.rooms_val.specs.Data.{Data, Pairs}
use Rattle.rooms_val.specs.Maps.{value_at}
use Rattle.field_ops.specs.RecordOps.{RecordOpTree}
use Rattle.side_effects.specs.Reaching.{reaches}
use Rattle.shape_tree.specs.Boxes.{shape_at}
use Rattle.shape_tree.specs.Records.{text_or_empty, is_shape, is_binding}
use Rattle.side_effects.specs.Records.{is_page, parent_of, from_of, to_of, has}
use Rattle.side_effects.specs.declared.fault.EditFault.{EditFault}
use Rattle.side_effects.specs.declared.fault.EditFault.TheVariants.{LastPage, NoParent, UnderItself, NoEnd}

abbrev pub has_page : Pairs → Bool
has_page m = list_any (λ e. is_page e.0) m

-- a page is there under the id
abbrev pub is_page_in : Pairs → List ℕ → Bool
is_page_in m id = is_page id && has m id

-- there was a page, and there is none any more
abbrev pub last_page : Pairs → Pairs → Option EditFault
last_page before after = if has_page before && not (has_page after) then Some LastPage else None

-- a page or a shape is there under the id; a shape is
abbrev pub has_parent : Pairs → List ℕ → Bool
has_parent m id = (is_page id || is_shape id) && has m id

abbrev pub has_shape : Pairs → List ℕ → Bool
has_shape m id = is_shape id && has m id

-- the parent of the shape under an id, if there is one
abbrev pub parent_at : Pairs → List ℕ → Option (List ℕ)
parent_at m id = option_map parent_of (shape_at m id)

-- the id is that of a shape whose parent isn't there
abbrev pub no_parent : Pairs → List ℕ → RecordOpTree → Option EditFault
no_parent m id c = option_and_then (λ parent. if has_parent m parent then None else Some (NoParent id)) (parent_at m id)

-- the parent as a list of at most one
abbrev pub parents : Pairs → List ℕ → List (List ℕ)
parents m id = option_to_list (parent_at m id)

-- the id is met again on the chain of its parents, within so many steps beyond the first one
abbrev pub meets_within : ℕ → Pairs → List ℕ → Bool
meets_within n m id = list_any (reaches (parents m) (λ above. bytes_eq above id) n) (parents m id)

-- the id is that of a shape that stands on its own chain of parents
abbrev pub meets_itself : Pairs → List ℕ → Bool
meets_itself m id = meets_within (length m) m id

abbrev pub under_itself : Pairs → List ℕ → RecordOpTree → Option EditFault
under_itself m id c = if meets_itself m id then Some (UnderItself id) else None

-- the id is that of a binding with an end that isn't there
abbrev pub binding_at : Pairs → List ℕ → Option Data
binding_at m id = if is_binding id then value_at m id else None

abbrev pub no_end : Pairs → List ℕ → RecordOpTree → Option EditFault
no_end m id c = option_and_then (λ d. if has_shape m (from_of d) && has_shape m (to_of d) then None else Some (NoEnd id)) (binding_at m id)

-- a record that is there names a shape that is there too
abbrev pub leads_to_shape : Pairs → List ℕ → List ℕ → Bool
leads_to_shape m id key = option_map_or (λ d. has_shape m (text_or_empty d key)) (value_at m id) true
