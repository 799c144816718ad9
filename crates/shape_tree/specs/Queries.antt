-- Which records meet a query.
use Rattle.std.specs.Prelude.{ℕ, int_lt, List, Bool, false, not, ◌&&◌, map, filter, option_and_then}
use Rattle.std.specs.List.{list_all, list_any}
use Rattle.std.specs.Option.{option_map_or}
use Rattle.std.specs.Ordering.{eq_by_cmp}
use Rattle.rooms_val.specs.Data.{Data, Pairs}
use Rattle.rooms_val.specs.Kinds.{as_whole, field}
use Rattle.rooms_val.specs.Order.{data_cmp}
use Rattle.rooms_val.specs.View.{data_of}
use Rattle.shape_tree.specs.declared.query.Query.{Query}
use Rattle.shape_tree.specs.declared.query.Query.TheOpen.{Query-F}
use Rattle.shape_tree.specs.declared.query.Query.TheFolds.{fold-Query}
use Rattle.shape_tree.specs.Records.{is_id_of}

-- two values are the same
abbrev pub is_same : Data → Data → Bool
is_same = eq_by_cmp data_cmp

-- a record meets a query: the field is there and is the value, is there and is another, is a greater number; each of
-- some queries, one of them, or not that one. Whether it meets these stands in their place.
abbrev pub meets_with : Data → Query-F Bool → Bool
meets_with d (Query-F.Eq name value) = option_map_or (λ v. is_same v (data_of value)) (field d name) false
meets_with d (Query-F.Neq name value) = option_map_or (λ v. not (is_same v (data_of value))) (field d name) false
meets_with d (Query-F.Gt name number) = option_map_or (λ z. int_lt number z) (option_and_then as_whole (field d name)) false
meets_with d (Query-F.And queries) = list_all (λ met. met) queries.items
meets_with d (Query-F.Or queries) = list_any (λ met. met) queries.items
meets_with d (Query-F.Not query) = not query.value

abbrev pub meets : Data → Query → Bool
meets d = fold-Query Bool (meets_with d)

-- the records of a type that meet a query, by id
abbrev pub ids_meeting : Pairs → List ℕ → Query → List (List ℕ)
ids_meeting m type query = map (λ e. e.0) (filter (λ e. is_id_of type e.0 && meets e.1 query) m)
