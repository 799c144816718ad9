-- What an index holds under each id, and that queries of its field are answered by it.
use Rattle.std.proofs.Common.{◌≡◌, ℕ, List, [], ◌∷◌, Bool, true, false, ◌&&◌, T, cond, Option, Some, None, option_map, refl, sym, ap, subst, ◌∙◌}
use Rattle.std.specs.Prelude.{filter, option_and_then, ℤ, int_lt}
use Rattle.std.specs.List.{filter_map, cons_option}
use Rattle.std.specs.Option.{option_map_or}
use Rattle.std.specs.FinMap.Entries.{below_all}
use Rattle.rooms_val.specs.Data.{Data, Pairs}
use Rattle.rooms_val.specs.Kinds.{as_whole, field}
use Rattle.rooms_val.specs.Maps.{order, ties, AreRising, value_at, set_at, keys_of}
use Rattle.rooms_val.specs.View.{data_of}
use Rattle.rooms_val.specs.declared.val.Val.{Val}
use Rattle.rooms_val.proofs.MapsLemmas.{first, second, by_tie, none_later, at-set_at, rising-set_at, rising_rest, same_pairs}
use Rattle.rooms_val.proofs.Truths.{and_holds}
use Rattle.shape_tree.specs.Queries.{is_same, meets, meets_with, ids_meeting}
use Rattle.shape_tree.specs.Records.{is_id_of}
use Rattle.shape_tree.specs.declared.query.Query.{Query}
use Rattle.shape_tree.specs.declared.query.Query.TheVariants as query
use Rattle.shape_tree.specs.declared.query.Query.TheOpen.{Query-F}
use Rattle.shape_tree.specs.declared.query.Query.TheFolds.{fold-roll-Query}
use Rattle.field_index.specs.Index.{field_of, value_of, indexed, with_record, is_greater, ids_where, ids_equal, ids_greater}

-- maps of what a function gives of some of the entries
module _ (g : List ℕ → Data → Option Data) where
  abbrev kept : Pairs → Pairs
  kept m = filter_map (λ e. option_map (λ v. (e.0, v)) (g e.0 e.1)) m

  below-kept : (k : List ℕ) (m : Pairs) → T (below_all order k m) → T (below_all order k (kept m))
  below-kept k [] h = tt
  below-kept k (e ∷ m) h =
      let rest = below-kept k m (second _ _ h) in
      elim (g e.0 e.1) as (λ o. T (below_all order k (cons_option (option_map (λ v. (e.0, v)) o) (kept m)))) [ None ↦ rest | Some v ↦ and_holds _ _ (first _ _ h) rest ]

  rising-kept : (m : Pairs) → AreRising m → AreRising (kept m)
  rising-kept [] rising = tt
  rising-kept (e ∷ m) rising =
      let rest = rising-kept m (rising_rest e m rising) in
      elim (g e.0 e.1) as (λ o. AreRising (cons_option (option_map (λ v. (e.0, v)) o) (kept m))) [ None ↦ rest | Some v ↦ and_holds _ _ (below-kept e.0 m (first _ _ rising)) rest ]

  at-kept : (m : Pairs) (q : List ℕ) → AreRising m → value_at (kept m) q ≡ option_and_then (g q) (value_at m q)
  at-kept [] q rising = refl
  at-kept (e ∷ m) q rising =
      let rest = at-kept m q (rising_rest e m rising) in
      by_tie (λ b. ties q e.0 ≡ b → value_at (cons_option (option_map (λ v. (e.0, v)) (g e.0 e.1)) (kept m)) q ≡ option_and_then (g q) (cond b (Some e.1) (value_at m q))) q e.0
      (λ same is.
      let later : value_at (kept m) q ≡ None = rest ∙ ap (option_and_then (g q)) (ap (value_at m) same ∙ none_later e m rising) in
      elim (g e.0 e.1) as (λ o. value_at (cons_option (option_map (λ v. (e.0, v)) o) (kept m)) q ≡ o) [ None ↦ later | Some v ↦ ap (λ b. cond b (Some v) (value_at (kept m) q)) is ]
      ∙ ap (λ k. g k e.1) (sym same))
      (λ is. elim (g e.0 e.1) as (λ o. value_at (cons_option (option_map (λ v. (e.0, v)) o) (kept m)) q ≡ option_and_then (g q) (value_at m q)) [
        | None ↦ rest
        | Some v ↦ ap (λ b. cond b (Some v) (value_at (kept m) q)) is ∙ rest
      ]) refl

nothing : (r : Option Data) → option_and_then {U = Data} (λ d. None) r ≡ None
nothing None = refl
nothing (Some d) = refl

module _ (type name : List ℕ) where
  pub rising-indexed : (m : Pairs) → AreRising m → AreRising (indexed type name m)
  rising-indexed = rising-kept (λ id d. value_of type name id (Some d))

  -- the value indexed of each id
  pub at-indexed : (m : Pairs) (q : List ℕ) → AreRising m → value_at (indexed type name m) q ≡ value_of type name q (value_at m q)
  at-indexed m q rising =
      at-kept (λ id d. value_of type name id (Some d)) m q rising
      ∙ elim (is_id_of type q) as (λ b. option_and_then (λ d. cond b (field d name) None) (value_at m q) ≡ cond b (field_of name (value_at m q)) None) [ true ↦ refl | false ↦ nothing (value_at m q) ]

  rising-with_record : (values : Pairs) (id : List ℕ) (r : Option Data) → AreRising values → AreRising (with_record type name values id r)
  rising-with_record values id r rising =
      elim (is_id_of type id) as (λ b. AreRising (cond b (set_at values id (field_of name r)) values)) [ true ↦ rising-set_at values id (field_of name r) rising | false ↦ rising ]

  at-with_record : (values : Pairs) (id q : List ℕ) (r : Option Data) → (is_id_of type id ≡ false → value_at values id ≡ None)
      → value_at (with_record type name values id r) q ≡ cond (ties q id) (value_of type name id r) (value_at values q)
  at-with_record values id q r others =
      elim (is_id_of type id) as (λ b. (b ≡ false → value_at values id ≡ None) → value_at (cond b (set_at values id (field_of name r)) values) q ≡ cond (ties q id) (cond b (field_of name r) None) (value_at values q)) [
        | true ↦ λ none. at-set_at values id q (field_of name r)
        | false ↦ λ none. by_tie (λ t. value_at values q ≡ cond t None (value_at values q)) q id (λ same. ap (value_at values) same ∙ none refl) refl
      ] others

  -- a write of a record is a write of its value
  pub indexed-set_at : (m : Pairs) (id : List ℕ) (r : Option Data) → AreRising m → indexed type name (set_at m id r) ≡ with_record type name (indexed type name m) id r
  indexed-set_at m id r rising =
      let others : is_id_of type id ≡ false → value_at (indexed type name m) id ≡ None = λ is. at-indexed m id rising ∙ ap (λ b. cond b (field_of name (value_at m id)) None) is in
      same_pairs _ _ (rising-indexed (set_at m id r) (rising-set_at m id r rising)) (rising-with_record (indexed type name m) id r (rising-indexed m rising)) (λ q.
      at-indexed (set_at m id r) q (rising-set_at m id r rising)
      ∙ ap (value_of type name q) (at-set_at m id q r)
      ∙ by_tie (λ t. value_of type name q (cond t r (value_at m q)) ≡ cond t (value_of type name id r) (value_at (indexed type name m) q)) q id
      (λ same. ap (λ k. value_of type name k r) same) (sym (at-indexed m q rising))
      ∙ sym (at-with_record (indexed type name m) id q r others))

  -- a query that tests the field's value alone
  module _ (query : Query) (test : Data → Bool) (tests : (d : Data) → meets d query ≡ option_map_or test (field d name) false) where
    ids_by_test : (m : Pairs) → ids_meeting m type query ≡ ids_where test (indexed type name m)
    ids_by_test [] = refl
    ids_by_test (e ∷ m) =
        let rest = ids_by_test m in
        let chosen = λ (b : Bool). keys_of (cond b (e ∷ filter (λ e. is_id_of type e.0 && meets e.1 query) m) (filter (λ e. is_id_of type e.0 && meets e.1 query) m)) in
        elim (is_id_of type e.0) as (λ b. chosen (b && meets e.1 query) ≡ ids_where test (cons_option (option_map (λ v. (e.0, v)) (cond b (field e.1 name) None)) (indexed type name m))) [
          | false ↦ rest
          | true ↦ ap chosen (tests e.1) ∙ elim (field e.1 name) as (λ o. chosen (option_map_or test o false) ≡ ids_where test (cons_option (option_map (λ v. (e.0, v)) o) (indexed type name m))) [
            | None ↦ rest
            | Some v ↦ elim (test v) as (λ t. chosen t ≡ keys_of (cond t ((e.0, v) ∷ filter (λ e. test e.1) (indexed type name m)) (filter (λ e. test e.1) (indexed type name m)))) [
              | true ↦ ap (λ ids. e.0 ∷ ids) rest
              | false ↦ rest
            ]
          ]
        ]

  pub ids_equal_by_index : (m : Pairs) (value : Val) → ids_meeting m type (query.Eq name value) ≡ ids_equal (data_of value) (indexed type name m)
  ids_equal_by_index m value = ids_by_test (query.Eq name value) (λ d. is_same d (data_of value)) (λ d. ap (meets d) (sym (query.rolls-Eq name value)) ∙ fold-roll-Query Bool (meets_with d) (Query-F.Eq name value)) m

  whole_in : (number : ℤ) (o : Option Data) → option_map_or (λ z. int_lt number z) (option_and_then as_whole o) false ≡ option_map_or (is_greater number) o false
  whole_in number None = refl
  whole_in number (Some d) = refl

  pub ids_greater_by_index : (m : Pairs) (number : ℤ) → ids_meeting m type (query.Gt name number) ≡ ids_greater number (indexed type name m)
  ids_greater_by_index m number = ids_by_test (query.Gt name number) (is_greater number) (λ d. ap (meets d) (sym (query.rolls-Gt name number)) ∙ fold-roll-Query Bool (meets_with d) (Query-F.Gt name number) ∙ whole_in number (field d name)) m
