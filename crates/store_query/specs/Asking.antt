-- What a store and an index answer of a query.
use Rattle.std.specs.Prelude.{◌≡◌, ℕ, List, Bool, false, filter}
use Rattle.std.specs.Option.{option_map_or}
use Rattle.rooms_val.specs.Data.{Pairs}
use Rattle.rooms_val.specs.Maps.{value_at}
use Rattle.shape_tree.specs.Queries.{meets, ids_meeting}
use Rattle.shape_tree.specs.declared.query.Query.{Query}
use Rattle.field_index.specs.Index.{indexed}
use Rattle.field_index.specs.declared.index.FieldIndex.{FieldIndex}

-- the index holds the values of these records
abbrev pub IsIndexOf : Pairs → FieldIndex → Type 0
IsIndexOf m index = index.values ≡ indexed index.type_name index.field m

-- the record under an id meets the query
abbrev pub meets_at : Pairs → Query → List ℕ → Bool
meets_at m query id = option_map_or (λ d. meets d query) (value_at m id) false

-- the ids of the type that meet the query are those of some ids whose record meets the query
abbrev pub AreCandidates : Pairs → List ℕ → Query → List (List ℕ) → Type 0
AreCandidates m type query ids = filter (meets_at m query) ids ≡ ids_meeting m type query
