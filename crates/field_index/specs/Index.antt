-- The values that a field has in the records of a type, by id.
use Rattle.std.specs.Prelude.{ℕ, ℤ, int_lt, List, Bool, false, if◌then◌else◌, Option, None, Some, option_map, option_and_then, filter}
use Rattle.std.specs.List.{filter_map}
use Rattle.std.specs.Option.{option_map_or}
use Rattle.rooms_val.specs.Data.{Data, Pairs}
use Rattle.rooms_val.specs.Kinds.{as_whole, field}
use Rattle.rooms_val.specs.Maps.{set_at, keys_of}
use Rattle.shape_tree.specs.Queries.{is_same}
use Rattle.shape_tree.specs.Records.{is_id_of}

-- the value of a field, where there is a record that has the field
abbrev pub field_of : List ℕ → Option Data → Option Data
field_of name stored = option_and_then (λ d. field d name) stored

-- the value that is indexed of an id with this record or none
abbrev pub value_of : List ℕ → List ℕ → List ℕ → Option Data → Option Data
value_of type name id stored = if is_id_of type id then field_of name stored else None

-- of the records of a type those that have the field, each id with the field's value
abbrev pub indexed : List ℕ → List ℕ → Pairs → Pairs
indexed type name m = filter_map (λ e. option_map (λ v. (e.0, v)) (value_of type name e.0 (Some e.1))) m

-- the values once an id has this record or none; an id of another type changes nothing
abbrev pub with_record : List ℕ → List ℕ → Pairs → List ℕ → Option Data → Pairs
with_record type name values id stored = if is_id_of type id then set_at values id (field_of name stored) else values

-- a value is a greater whole number
abbrev pub is_greater : ℤ → Data → Bool
is_greater number d = option_map_or (λ z. int_lt number z) (as_whole d) false

-- the ids whose value passes a test
abbrev pub ids_where : (Data → Bool) → Pairs → List (List ℕ)
ids_where test values = keys_of (filter (λ e. test e.1) values)

-- those whose value is this one, and those whose value is a greater whole number
abbrev pub ids_equal : Data → Pairs → List (List ℕ)
ids_equal value = ids_where (λ d. is_same d value)

abbrev pub ids_greater : ℤ → Pairs → List (List ℕ)
ids_greater number = ids_where (is_greater number)
