-- The places with one value stand together.
use Rattle.std.proofs.Common.{◌≡◌, ℕ, List, [], ◌∷◌, ◌++◌, Bool, ◌&&◌, true, false, cond, map, Ordering, Less, Equal, Greater, is_eq, refl, sym, ap, subst, ◌∙◌, append_assoc}
use Rattle.std.specs.Prelude.{filter}
use Rattle.std.specs.BTreeMap.Range.{range_contains}
use Rattle.std.specs.Cmp.{tied_itself}
use Rattle.std.specs.List.{AllByRecursion}
use Rattle.std.specs.List.Sorted.{IsStrictlySortedBy}
use Rattle.std.specs.Ordering.{is_le, ordering_then, ordering_reverse}
use Rattle.std.specs.declared.ops.Bound.TheVariants.{Included, Unbounded}
use Rattle.std.proofs.lemmas.List.{append-nil}
use Rattle.std.proofs.lemmas.List.Elements.{filter_agree}
use Rattle.rooms_val.specs.Data.{Data}
use Rattle.rooms_val.specs.Maps.{order}
use Rattle.rooms_val.specs.Order.{data_cmp}
use Rattle.rooms_val.specs.OrderLaws.{same_data, data_total}
use Rattle.rooms_val.specs.View.{data_of, pairs_view}
use Rattle.rooms_val.specs.declared.val.Val.{Val}
use Rattle.shape_tree.specs.Queries.{is_same}
use Rattle.field_index.specs.declared.place.Place.{Place}
use Rattle.field_index.specs.Index.{ids_equal}
use Rattle.field_index.specs.Places.{place_at, place_order, ArePlaces}
use Rattle.field_index.proofs.PlacesLemmas.{same_value}
use Rattle.field_index.proofs.AnswerLemmas.{filter_within, least_id, answer_is}

module _ (v : Val) where
  -- a place has the value
  abbrev pub is_one : Place → Bool
  is_one p = is_same (data_of p.value) (data_of v)

  -- once a place has another value, none has it that follows
  abbrev pub EndsOnce : List Place → Type 0
  EndsOnce [] = Unit {0}
  EndsOnce (p ∷ ps) = (is_one p ≡ false → filter is_one ps ≡ []) × EndsOnce ps

  -- a place isn't before those with the value
  abbrev pub is_from : Place → Bool
  is_from p = is_le (place_order (place_at v []) p)

  one_is_from : (p : Place) → is_one p ≡ true → is_from p ≡ true
  one_is_from p is =
      ap (λ o. is_le (ordering_then o (order [] p.id))) (ap (data_cmp (data_of v)) (same_value (data_of p.value) (data_of v) is) ∙ tied_itself data_total (data_of v)) ∙ least_id p.id

  -- what isn't before the value, and isn't the value, is after it
  after : (p : Place) → is_from p ≡ true → is_one p ≡ false → data_cmp (data_of v) (data_of p.value) ≡ Less
  after p from other =
      let flip = data_total.antisymm (data_of p.value) (data_of v) in
      elim (data_cmp (data_of v) (data_of p.value)) as (λ o. data_cmp (data_of p.value) (data_of v) ≡ ordering_reverse o → is_le (ordering_then o (order [] p.id)) ≡ true → o ≡ Less) [
        | Less ↦ λ f h. refl
        | Equal ↦ λ f h. let no = ap is_eq f in cc
        | Greater ↦ λ f h. cc
      ] flip from

  later : (p q : Place) → data_cmp (data_of v) (data_of p.value) ≡ Less → place_order p q ≡ Less → is_one q ≡ false
  later p q above next =
      elim (data_cmp (data_of p.value) (data_of q.value)) as (λ o. data_cmp (data_of p.value) (data_of q.value) ≡ o → ordering_then o (order p.id q.id) ≡ Less → is_one q ≡ false) [
        | Less ↦ λ is h. ap is_eq (data_total.antisymm (data_of q.value) (data_of v) ∙ ap ordering_reverse (data_total.trans (data_of v) (data_of p.value) (data_of q.value) above is))
        | Equal ↦ λ is h. ap is_eq (data_total.antisymm (data_of q.value) (data_of v) ∙ ap ordering_reverse (ap (data_cmp (data_of v)) (sym (same_data (data_of p.value) (data_of q.value) is)) ∙ above))
        | Greater ↦ λ is h. cc
      ] refl next

  none_later : (p : Place) (ks : List Place) → data_cmp (data_of v) (data_of p.value) ≡ Less → AllByRecursion (λ q. place_order p q ≡ Less) ks → filter is_one (filter is_from ks) ≡ []
  none_later p [] above next = refl
  none_later p (k ∷ ks) above next =
      let rest = none_later p ks above next.1 in
      elim (is_from k) as (λ b. filter is_one (cond b (k ∷ filter is_from ks) (filter is_from ks)) ≡ []) [
        | true ↦ ap (λ t. cond t (k ∷ filter is_one (filter is_from ks)) (filter is_one (filter is_from ks))) (later p k above next.0) ∙ rest
        | false ↦ rest
      ]

  pub ends_once : (ks : List Place) → IsStrictlySortedBy place_order ks → EndsOnce (filter is_from ks)
  unfolding IsStrictlySortedBy
  ends_once [] sorted = tt
  ends_once (k ∷ ks) sorted =
      let rest = ends_once ks sorted.1 in
      elim (is_from k) as (λ b. is_from k ≡ b → EndsOnce (cond b (k ∷ filter is_from ks) (filter is_from ks))) [
        | true ↦ λ from. (λ other. none_later k ks (after k from other) sorted.0, rest)
        | false ↦ λ from. rest
      ] refl

  below_ids : (p : Place) (ks : List Place) → is_one p ≡ true → AllByRecursion (λ q. place_order p q ≡ Less) ks → AllByRecursion (λ id. order p.id id ≡ Less) (map (λ q. q.id) (filter is_one ks))
  below_ids p [] here next = tt
  below_ids p (k ∷ ks) here next =
      let rest = below_ids p ks here next.1 in
      elim (is_one k) as (λ b. is_one k ≡ b → AllByRecursion (λ id. order p.id id ≡ Less) (map (λ q. q.id) (cond b (k ∷ filter is_one ks) (filter is_one ks)))) [
        | true ↦ λ is.
            let level = ap (λ d. data_cmp d (data_of k.value)) (same_value (data_of p.value) (data_of v) here ∙ sym (same_value (data_of k.value) (data_of v) is)) ∙ tied_itself data_total (data_of k.value) in
            (sym (ap (λ o. ordering_then o (order p.id k.id)) level) ∙ next.0, rest)
        | false ↦ λ is. rest
      ] refl

  -- their ids rise
  sorted_ids : (ks : List Place) → IsStrictlySortedBy place_order ks → IsStrictlySortedBy order (map (λ q. q.id) (filter is_one ks))
  unfolding IsStrictlySortedBy
  sorted_ids [] sorted = tt
  sorted_ids (k ∷ ks) sorted =
      let rest = sorted_ids ks sorted.1 in
      elim (is_one k) as (λ b. is_one k ≡ b → IsStrictlySortedBy order (map (λ q. q.id) (cond b (k ∷ filter is_one ks) (filter is_one ks)))) [
        | true ↦ λ is. (below_ids k ks is sorted.0, rest)
        | false ↦ λ is. rest
      ] refl

  from_start : (b : Bool) → (b && true) ≡ b
  from_start true = refl
  from_start false = refl

  pub ranged : (ks : List Place) (least : Place) → least ≡ place_at v [] → filter (range_contains place_order (Included least) Unbounded) ks ≡ filter is_from ks
  ranged ks least is =
      filter_agree (range_contains place_order (Included least) Unbounded) is_from (λ p. from_start (is_le (place_order least p)) ∙ ap (λ q. is_le (place_order q p)) is) ks

  -- a walk over places finds one more id, or none from here on
  pub one_more : (found : List (List ℕ)) (p : Place) (rest : List Place) → is_one p ≡ true
      → (found ++ p.id ∷ []) ++ map (λ q. q.id) (filter is_one rest) ≡ found ++ map (λ q. q.id) (filter is_one (p ∷ rest))
  one_more found p rest is =
      append_assoc found (p.id ∷ []) (map (λ q. q.id) (filter is_one rest))
      ∙ ap (λ b. found ++ map (λ (q : Place). q.id) (cond b (p ∷ filter is_one rest) (filter is_one rest))) (sym is)

  pub no_more : (found : List (List ℕ)) (p : Place) (rest : List Place) → is_one p ≡ false → EndsOnce (p ∷ rest) → found ++ map (λ q. q.id) (filter is_one (p ∷ rest)) ≡ found
  no_more found p rest other ends =
      ap (λ b. found ++ map (λ (q : Place). q.id) (cond b (p ∷ filter is_one rest) (filter is_one rest))) other
      ∙ ap (λ ps. found ++ map (λ (q : Place). q.id) ps) (ends.0 other) ∙ append-nil found

  pub equal_is : (es : List (List ℕ × Val)) (ks : List Place) → ArePlaces es ks → map (λ q. q.id) (filter is_one (filter is_from ks)) ≡ ids_equal (data_of v) (pairs_view es)
  equal_is es ks are =
      ap (map (λ (q : Place). q.id)) (filter_within is_one is_from one_is_from ks) ∙ answer_is (λ d. is_same d (data_of v)) es ks are (map (λ q. q.id) (filter is_one ks)) (sorted_ids ks are.ordered) (λ q. refl)
