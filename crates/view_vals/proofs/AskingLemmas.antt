-- What a query asks is told by its value.
use Rattle.std.proofs.Common.{◌≡◌, ℕ, List, [], ◌∷◌, Bool, true, false, ◌&&◌, ◌||◌, map, if◌then◌else◌, codes, refl, sym, ap, ◌∙◌}
use Rattle.std.specs.List.{list_all, list_any}
use Rattle.std.specs.Prelude.{int_lt, option_and_then}
use Rattle.std.specs.Prelude as std
use Rattle.std.specs.Option.{option_map_or}
use Rattle.std.specs.Str.{bytes_eq}
use Rattle.rooms_val.specs.Data.{Data, text, list, Items, no_items, item, items_of}
use Rattle.rooms_val.specs.Kinds.{as_whole, field}
use Rattle.shape_tree.specs.Queries.{is_same, meets, meets_with}
use Rattle.shape_tree.specs.declared.query.Query.{Query}
use Rattle.shape_tree.specs.declared.query.Query.TheOpen.{Query-F}
use Rattle.shape_tree.specs.declared.query.Query.TheFolds.{map-Query, fold-roll-Query, ind-Query}
use Rattle.view_vals.specs.Queries.{data_with, query_data}

-- whether a record meets a comparison of a field
abbrev compares : Data → List ℕ → List ℕ → Data → Bool
compares r name field' d =
    if bytes_eq name (codes "eq") then option_map_or (λ v. is_same v d) (field r field') false
    else if bytes_eq name (codes "neq") then option_map_or (λ v. std.not (is_same v d)) (field r field') false
    else option_map_or (λ z. option_map_or (λ n. int_lt n z) (as_whole d) false) (option_and_then as_whole (field r field')) false

-- whether a record meets the query of a value
abbrev mutual
  asks : Data → Data → Bool
  asks r (list (item (text name) (item q no_items))) =
      if bytes_eq name (codes "not") then std.not (asks r q) else if bytes_eq name (codes "and") then all_of r q else any_of r q
  asks r (list (item (text name) (item (text field') (item d no_items)))) = compares r name field' d
  asks r _ = false

  all_of : Data → Data → Bool
  all_of r (list qs) = all_ask r qs
  all_of r _ = true

  any_of : Data → Data → Bool
  any_of r (list qs) = any_asks r qs
  any_of r _ = false

  all_ask : Data → Items → Bool
  all_ask r no_items = true
  all_ask r (item q qs) = asks r q && all_ask r qs

  any_asks : Data → Items → Bool
  any_asks r no_items = false
  any_asks r (item q qs) = asks r q || any_asks r qs

-- a query with what its value asks
abbrev Told : Data → Type 0
Told r = (q : Query) × (asks r (query_data q) ≡ meets r q)

all_told : (r : Data) (ts : List (Told r)) → all_ask r (items_of (map query_data (map (λ t. t.0) ts))) ≡ list_all (λ met. met) (map (meets r) (map (λ t. t.0) ts))
all_told r [] = refl
all_told r (t ∷ ts) = λ i. t.1 i && all_told r ts i

any_told : (r : Data) (ts : List (Told r)) → any_asks r (items_of (map query_data (map (λ t. t.0) ts))) ≡ list_any (λ met. met) (map (meets r) (map (λ t. t.0) ts))
any_told r [] = refl
any_told r (t ∷ ts) = λ i. t.1 i || any_told r ts i

layer_told : (r : Data) (layer : Query-F (Told r))
    → asks r (data_with (map-Query Query Data query_data (map-Query (Told r) Query (λ t. t.0) layer))) ≡ meets_with r (map-Query Query Bool (meets r) (map-Query (Told r) Query (λ t. t.0) layer))
layer_told r (Query-F.Eq name value) = refl
layer_told r (Query-F.Neq name value) = refl
layer_told r (Query-F.Gt name number) = refl
layer_told r (Query-F.And queries) = all_told r queries.items
layer_told r (Query-F.Or queries) = any_told r queries.items
layer_told r (Query-F.Not query) = ap std.not query.value.1

told : (r : Data) (q : Query) → asks r (query_data q) ≡ meets r q
told r =
    ind-Query (λ q. asks r (query_data q) ≡ meets r q) (λ x y is.
    ap (asks r) (fold-roll-Query Data data_with x)
    ∙ (λ i. asks r (data_with (map-Query Query Data query_data (sym is i)))) ∙ layer_told r y ∙ (λ i. meets_with r (map-Query Query Bool (meets r) (is i)))
    ∙ sym (fold-roll-Query Bool (meets_with r) x))

pub ask_the_same : (q s : Query) → query_data q ≡ query_data s → (r : Data) → meets r q ≡ meets r s
ask_the_same q s same r = sym (told r q) ∙ ap (asks r) same ∙ told r s
