-- The ids of an index with their values, in the order of the values.
use Rattle.std.specs.Prelude.{◌≡◌, ℕ, List, Bool, false, Option}
use Rattle.std.specs.List.{list_any}
use Rattle.std.specs.List.Sorted.{IsStrictlySortedBy}
use Rattle.std.specs.Option.{option_map_or}
use Rattle.std.specs.Ordering.{is_eq, ordering_then}
use Rattle.std.specs.declared.cmp.Ordering.{Ordering}
use Rattle.rooms_val.specs.Maps.{order, AreRising, value_at}
use Rattle.rooms_val.specs.Order.{data_cmp}
use Rattle.rooms_val.specs.View.{data_of}
use Rattle.rooms_val.specs.declared.val.Val.{Val}
use Rattle.shape_tree.specs.Queries.{is_same}
use Rattle.field_index.specs.declared.place.Place.{Place}

-- the place of an id with a value
abbrev pub place_at : Val → List ℕ → Place
place_at value id = record { value = value; id = id }

-- by value, then by id
abbrev pub place_order : Place → Place → Ordering
place_order p q = ordering_then (data_cmp (data_of p.value) (data_of q.value)) (order p.id q.id)

-- the place is one of some
abbrev pub is_among : List Place → Place → Bool
is_among places p = list_any (λ q. is_eq (place_order p q)) places

-- the place is that of an id with a value, if there is one
abbrev pub is_place_of : Option Val → List ℕ → Place → Bool
is_place_of value id p = option_map_or (λ v. is_eq (place_order (place_at v id) p)) value false

-- what an id has, if anything, is the value of the place
abbrev pub is_value : Option Val → Place → Bool
is_value value p = option_map_or (λ v. is_same (data_of v) (data_of p.value)) value false

-- the ids rise, and the places are those of their values, in order
pub record ArePlaces (values : List (List ℕ × Val)) (places : List Place) : Type 0 where
  pub rising : AreRising values
  pub ordered : IsStrictlySortedBy place_order places
  pub same : (p : Place) → is_among places p ≡ is_value (value_at values p.id) p
