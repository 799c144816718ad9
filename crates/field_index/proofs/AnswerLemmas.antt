-- What the places of a map say of the ids whose value passes a test.
use Rattle.std.proofs.Common.{◌≡◌, ℕ, List, [], ◌∷◌, ◌++◌, Bool, true, false, ◌||◌, T, cond, map, Option, Some, None, option_map, Ordering, Less, Equal, Greater, is_eq, refl, sym, ap, subst, ◌∙◌}
use Rattle.std.specs.Prelude.{filter}
use Rattle.std.specs.BTreeSet.{BTreeSet}
use Rattle.std.specs.Cmp.{tied_itself}
use Rattle.std.specs.Cmp.Lexicographic.{nat_list_cmp_total}
use Rattle.std.specs.FinMap.Entries.{below_all}
use Rattle.std.specs.List.{AllByRecursion, list_any}
use Rattle.std.specs.List.Sorted.{IsStrictlySortedBy}
use Rattle.std.specs.Option.{option_map_or}
use Rattle.std.specs.Ordering.{is_lt, is_le}
use Rattle.std.proofs.lemmas.Map.Lookups.{btree_set_from_contains, exact_bytes}
use Rattle.rooms_val.proofs.Truths.{or_left, or_right, iff_same}
use Rattle.rooms_val.specs.Data.{Data, Pairs}
use Rattle.rooms_val.specs.Maps.{order, ties, AreRising, value_at, keys_of}
use Rattle.rooms_val.specs.OrderLaws.{data_total}
use Rattle.rooms_val.specs.View.{data_of, pairs_view}
use Rattle.rooms_val.specs.declared.val.Val.{Val}
use Rattle.rooms_val.proofs.MapsLemmas.{first, second, less, ties_same, by_tie, order_itself, none_later, rising_rest, at-seen, rising-seen}
use Rattle.shape_tree.specs.Queries.{is_same}
use Rattle.field_index.specs.declared.place.Place.{Place}
use Rattle.field_index.specs.Index.{ids_where}
use Rattle.field_index.specs.Places.{place_at, place_order, is_among, is_value, ArePlaces}
use Rattle.field_index.proofs.PlacesLemmas.{place_total, same_place, same_value}

-- an id is one of some
abbrev pub has : List (List ℕ) → List ℕ → Bool
has ids q = list_any (ties q) ids

-- the ids of the places whose value passes a test
abbrev pub ids_at : (Data → Bool) → List Place → List (List ℕ)
ids_at test ps = map (λ p. p.id) (filter (λ p. test (data_of p.value)) ps)

-- what passes a test is among what passes a weaker one
pub filter_within : {X : Type 0} (strong weak : X → Bool) → ((x : X) → strong x ≡ true → weak x ≡ true) → (xs : List X) → filter strong (filter weak xs) ≡ filter strong xs
filter_within strong weak implied [] = refl
filter_within strong weak implied (x ∷ xs) =
    let rest = filter_within strong weak implied xs in
    elim (strong x) as (λ b. strong x ≡ b → filter strong (cond (weak x) (x ∷ filter weak xs) (filter weak xs)) ≡ cond b (x ∷ filter strong xs) (filter strong xs)) [
      | true ↦ λ is.
          ap (λ b. filter strong (cond b (x ∷ filter weak xs) (filter weak xs))) (implied x is)
          ∙ ap (λ b. cond b (x ∷ filter strong (filter weak xs)) (filter strong (filter weak xs))) is ∙ ap (λ ys. x ∷ ys) rest
      | false ↦ λ is. elim (weak x) as (λ b. filter strong (cond b (x ∷ filter weak xs) (filter weak xs)) ≡ filter strong xs) [
        | true ↦ ap (λ b. cond b (x ∷ filter strong (filter weak xs)) (filter strong (filter weak xs))) is ∙ rest
        | false ↦ rest
      ]
    ] refl

-- the empty id comes before all others
pub least_id : (id : List ℕ) → is_le (order [] id) ≡ true
least_id [] = refl
least_id (x ∷ id) = refl

module _ (test : Data → Bool) where
  -- a place whose value passes gives its id
  has-from_among : (ks : List Place) (p : Place) → is_among ks p ≡ true → test (data_of p.value) ≡ true → has (ids_at test ks) p.id ≡ true
  has-from_among [] p there passes = cc
  has-from_among (k ∷ ks) p there passes =
      let later : is_among ks p ≡ true → has (ids_at test (k ∷ ks)) p.id ≡ true = λ is.
      elim (test (data_of k.value)) as (λ b. has (map (λ p. p.id) (cond b (k ∷ filter (λ p. test (data_of p.value)) ks) (filter (λ p. test (data_of p.value)) ks))) p.id ≡ true) [
        | true ↦ or_right (ties p.id k.id) _ (has-from_among ks p is passes)
        | false ↦ has-from_among ks p is passes
      ] in
      elim (place_order p k) as (λ o. place_order p k ≡ o → (is_eq o || is_among ks p) ≡ true → has (ids_at test (k ∷ ks)) p.id ≡ true) [
        | Less ↦ λ is. later
        | Equal ↦ λ is there.
            let same = same_place p k is in
            ap (λ b. has (map (λ p. p.id) (cond b (k ∷ filter (λ p. test (data_of p.value)) ks) (filter (λ p. test (data_of p.value)) ks))) p.id) (ap (λ (q : Place). test (data_of q.value)) (sym same) ∙ passes)
            ∙ or_left (ties p.id k.id) _ (ap is_eq (ap (order p.id) (ap (λ (q : Place). q.id) (sym same)) ∙ order_itself p.id))
        | Greater ↦ λ is. later
      ] refl there

  -- an id is given by a place whose value passes
  among-from_has : (ks : List Place) (q : List ℕ) → has (ids_at test ks) q ≡ true → record { place : Place; among : is_among ks place ≡ true; passes : test (data_of place.value) ≡ true; id : q ≡ place.id }
  among-from_has [] q there = cc
  among-from_has (k ∷ ks) q there =
      let later : has (ids_at test ks) q ≡ true → record { place : Place; among : is_among (k ∷ ks) place ≡ true; passes : test (data_of place.value) ≡ true; id : q ≡ place.id } = λ is.
      let r = among-from_has ks q is in
      record { place = r.place; among = or_right (is_eq (place_order r.place k)) (is_among ks r.place) r.among; passes = r.passes; id = r.id } in
      elim (test (data_of k.value)) as (λ b. test (data_of k.value) ≡ b → has (map (λ p. p.id) (cond b (k ∷ filter (λ p. test (data_of p.value)) ks) (filter (λ p. test (data_of p.value)) ks))) q ≡ true
      → record { place : Place; among : is_among (k ∷ ks) place ≡ true; passes : test (data_of place.value) ≡ true; id : q ≡ place.id }) [
        | true ↦ λ passes. elim (ties q k.id) as (λ t. ties q k.id ≡ t → (t || has (ids_at test ks) q) ≡ true → record { place : Place; among : is_among (k ∷ ks) place ≡ true; passes : test (data_of place.value) ≡ true; id : q ≡ place.id }) [
          | true ↦ λ is found. record { place = k; among = or_left (is_eq (place_order k k)) (is_among ks k) (ap is_eq (tied_itself place_total k)); passes = passes; id = ties_same q k.id is }
          | false ↦ λ is. later
        ] refl
        | false ↦ λ fails. later
      ] refl there

  -- whether what an id has passes
  abbrev passes_at : Option Val → Bool
  passes_at o = option_map_or (λ v. test (data_of v)) o false

  value_passes : (o : Option Val) (p : Place) → is_value o p ≡ true → test (data_of p.value) ≡ true → passes_at o ≡ true
  value_passes None p is passes = cc
  value_passes (Some v) p is passes = ap test (same_value (data_of v) (data_of p.value) is) ∙ passes

  passing_value : (o : Option Val) → passes_at o ≡ true → record { v : Val; is : o ≡ Some v; passes : test (data_of v) ≡ true }
  passing_value None passes = cc
  passing_value (Some v) passes = record { v = v; is = refl; passes = passes }

  has-ids_at : (es : List (List ℕ × Val)) (ks : List Place) → ArePlaces es ks → (q : List ℕ) → has (ids_at test ks) q ≡ passes_at (value_at es q)
  has-ids_at es ks are q = iff_same (has (ids_at test ks) q) (passes_at (value_at es q))
      (λ there.
      let r = among-from_has ks q there in
      ap (λ k. passes_at (value_at es k)) r.id ∙ value_passes (value_at es r.place.id) r.place (sym (are.same r.place) ∙ r.among) r.passes)
      (λ passes.
      let r = passing_value (value_at es q) passes in
      has-from_among ks (place_at r.v q) (are.same (place_at r.v q) ∙ ap (λ o. is_value o (place_at r.v q)) r.is ∙ ap is_eq (tied_itself data_total (data_of r.v))) r.passes)

  -- the same of a map
  has-ids_where : (m : Pairs) (q : List ℕ) → AreRising m → has (ids_where test m) q ≡ option_map_or test (value_at m q) false
  has-ids_where [] q rising = refl
  has-ids_where (e ∷ m) q rising =
      let rest = has-ids_where m q (rising_rest e m rising) in
      elim (test e.1) as (λ b. test e.1 ≡ b → has (keys_of (cond b (e ∷ filter (λ e. test e.1) m) (filter (λ e. test e.1) m))) q ≡ option_map_or test (cond (ties q e.0) (Some e.1) (value_at m q)) false) [
        | true ↦ λ is. elim (ties q e.0) as (λ t. (t || has (ids_where test m) q) ≡ option_map_or test (cond t (Some e.1) (value_at m q)) false) [ true ↦ sym is | false ↦ rest ]
        | false ↦ λ is. by_tie (λ t. has (ids_where test m) q ≡ option_map_or test (cond t (Some e.1) (value_at m q)) false) q e.0
            (λ same. rest ∙ ap (λ o. option_map_or test o false) (ap (value_at m) same ∙ none_later e m rising) ∙ sym is) rest
      ] refl

  passes_seen : (o : Option Val) → option_map_or test (option_map data_of o) false ≡ passes_at o
  passes_seen None = refl
  passes_seen (Some v) = refl

  below-ids_where : (k : List ℕ) (m : Pairs) → T (below_all order k m) → AllByRecursion (λ q. order k q ≡ Less) (ids_where test m)
  below-ids_where k [] h = tt
  below-ids_where k (e ∷ m) h =
      let rest = below-ids_where k m (second _ _ h) in
      elim (test e.1) as (λ b. AllByRecursion (λ q. order k q ≡ Less) (keys_of (cond b (e ∷ filter (λ e. test e.1) m) (filter (λ e. test e.1) m)))) [ true ↦ (less _ (first _ _ h), rest) | false ↦ rest ]

  sorted-ids_where : (m : Pairs) → AreRising m → IsStrictlySortedBy order (ids_where test m)
  unfolding IsStrictlySortedBy
  sorted-ids_where [] rising = tt
  sorted-ids_where (e ∷ m) rising =
      let rest = sorted-ids_where m (rising_rest e m rising) in
      elim (test e.1) as (λ b. IsStrictlySortedBy order (keys_of (cond b (e ∷ filter (λ e. test e.1) m) (filter (λ e. test e.1) m)))) [ true ↦ (below-ids_where e.0 m (first _ _ rising), rest) | false ↦ rest ]

  -- ids in order, those of the places whose value passes, are those of the map
  pub answer_is : (es : List (List ℕ × Val)) (ks : List Place) → ArePlaces es ks → (ids : List (List ℕ)) → IsStrictlySortedBy order ids → ((q : List ℕ) → has ids q ≡ has (ids_at test ks) q) → ids ≡ ids_where test (pairs_view es)
  answer_is es ks are ids sorted same =
      let rising : AreRising (pairs_view es) = subst T (sym (rising-seen data_of es)) are.rising in
      btree_set_from_contains nat_list_cmp_total (record { keys = ids }) (record { keys = ids_where test (pairs_view es) }) sorted (sorted-ids_where (pairs_view es) rising)
      (λ q. same q ∙ has-ids_at es ks are q ∙ sym (passes_seen (value_at es q)) ∙ ap (λ o. option_map_or test o false) (sym (at-seen data_of es q)) ∙ sym (has-ids_where (pairs_view es) q rising))
      exact_bytes
