-- The lists that stand beside the records of a board, and where each record stands in them.
use Rattle.std.specs.Prelude.{ℕ, List, [], Bool, Option, Some, None, if◌then◌else◌, codes}
use Rattle.std.specs.Option.{unwrap_or}
use Rattle.std.specs.Ordering.{is_lt}
use Rattle.rooms_val.specs.Data.{Data, null, Pairs}
use Rattle.rooms_val.specs.Maps.{value_at}
use Rattle.shape_tree.specs.Records.{text_or_empty, is_shape, is_binding}
use Rattle.shape_tree.specs.Trees.{Sibling, sibling_order, children}
use Rattle.tl_rules.specs.Atoms.{bindings}
use Rattle.tl_rules.specs.declared.key.TlKey.{TlKey}
use Rattle.tl_rules.specs.declared.key.TlKey.TheVariants as key
use Rattle.tl_rules.specs.declared.listing.Listing.{Listing}
use Rattle.tl_rules.specs.declared.listing.Listing.TheVariants.{Children, BoundFrom, BoundTo}

-- the listing has records with such an id: shapes, or bindings
abbrev pub lists : Listing → List ℕ → Bool
lists Children = is_shape
lists BoundFrom = is_binding
lists BoundTo = is_binding

-- the field of a record that names its owner
abbrev pub owner_field : Listing → List ℕ
owner_field Children = codes "parentId"
owner_field BoundFrom = codes "fromId"
owner_field BoundTo = codes "toId"

-- under which id an entry of a map is listed; under none where its own id is of another type
abbrev pub owner_of : Listing → List ℕ × Data → Option (List ℕ)
owner_of l e = if lists l e.0 then Some (text_or_empty e.1 (owner_field l)) else None

-- the index by which a record stands; bindings have an empty one, and stand by id alone
abbrev pub index_of : Listing → Data → List ℕ
index_of Children d = text_or_empty d (codes "index")
index_of BoundFrom d = []
index_of BoundTo d = []

-- where an entry stands in the list of its owner: by index, and then by id
abbrev pub place_of : Listing → List ℕ × Data → Sibling
place_of l e = record { index = index_of l e.1; id = e.0 }

-- the ids that are listed under an owner, in order
abbrev pub listed : Listing → Pairs → List ℕ → List (List ℕ)
listed Children = children
listed BoundFrom = bindings (codes "fromId")
listed BoundTo = bindings (codes "toId")

-- the key of the atom that has that list
abbrev pub key_of : Listing → List ℕ → TlKey
key_of Children owner = key.ByParent owner
key_of BoundFrom owner = key.BoundFrom owner
key_of BoundTo owner = key.BoundTo owner

-- the record under an id, or null where there is none, stands before a place
abbrev pub stands_before : Listing → List ℕ → Option Data → Sibling → Bool
stands_before l id found place = is_lt (sibling_order (place_of l (id, unwrap_or found null)) place)

-- the same, where the record is looked up in a map
abbrev pub is_before : Listing → Pairs → Sibling → List ℕ → Bool
is_before l m place id = stands_before l id (value_at m id) place
