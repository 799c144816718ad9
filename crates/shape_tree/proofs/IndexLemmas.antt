-- The children of a parent are a part of the sorted places.
use Rattle.std.proofs.Common.{◌≡◌, ℕ, ◌+◌, List, [], ◌∷◌, Bool, true, false, cond, ◌&&◌, map, refl, sym, ap, ◌∙◌, subst, zero-add}
use Rattle.std.specs.Prelude.{filter, codes, IsPermutation, IsSortedBy}
use Rattle.std.specs.List.{sum_by}
use Rattle.std.specs.Cmp.{IsTotalOrder}
use Rattle.std.specs.Cmp.Lexicographic.{nat_list_cmp_total}
use Rattle.std.specs.Ordering.{is_lt, ordering_then, on}
use Rattle.std.specs.declared.cmp.Ordering.TheVariants.{Equal}
use Rattle.std.proofs.lemmas.Cmp.{on_total, then_total}
use Rattle.std.proofs.lemmas.List.Sums.{sum_by-cons}
use Rattle.std.proofs.lemmas.List.Sorted.{sum_by-IsPermutation, IsPermutation-map}
use Rattle.rooms_val.proofs.Truths.{both_Equal}
use Rattle.rooms_val.specs.Data.{Pairs}
use Rattle.rooms_val.specs.Maps.{order, ties}
use Rattle.rooms_val.proofs.MapsLemmas.{same_key, order_itself, by_tie}
use Rattle.shape_tree.specs.Records.{is_shape, text_or_empty}
use Rattle.shape_tree.specs.Trees.{Sibling, sibling_of, sibling_order, is_child, children}
use Rattle.shape_tree.specs.declared.place.Place as borrowed
use Rattle.shape_tree.specs.Index.{Place, place_of, places, place_view, places_view, place_order, under, AreNotLess, Rises, IsIndex}
use Rattle.shape_tree.proofs.SortingLemmas.{tally, one_at, in_order_is, rises_from_sorted}

pub place_total : IsTotalOrder place_order
place_total = then_total (on_total (λ p. p.parent) nat_list_cmp_total) (then_total (on_total (λ p. p.index) nat_list_cmp_total) (on_total (λ p. p.id) nat_list_cmp_total))

sibling_total : IsTotalOrder sibling_order
sibling_total = then_total (on_total (λ s. s.index) nat_list_cmp_total) (on_total (λ s. s.id) nat_list_cmp_total)

pub same_sibling : (s t : Sibling) → sibling_order s t ≡ Equal → s ≡ t
same_sibling s t e =
    let both = both_Equal (order s.index t.index) (order s.id t.id) e in
    let index = same_key s.index t.index both.0 in
    let id = same_key s.id t.id both.1 in
    λ i. record { index = index i; id = id i }

abbrev sibling_at : Place → Sibling
sibling_at p = record { index = p.index; id = p.id }

module _ (parent : List ℕ) where
  above_under : (x : Place) (ps : List Place) → x.parent ≡ parent → AreNotLess place_order x ps → AreNotLess sibling_order (sibling_at x) (map sibling_at (under parent ps))
  above_under x [] here above = tt
  above_under x (p ∷ ps) here above =
      let rest = above_under x ps here above.1 in
      by_tie (λ b. AreNotLess sibling_order (sibling_at x) (map sibling_at (cond b (p ∷ under parent ps) (under parent ps)))) p.parent parent
      (λ there. (
        subst (λ w. is_lt (ordering_then w (ordering_then (order p.index x.index) (order p.id x.id))) ≡ false)
            (ap (order p.parent) (here ∙ sym there) ∙ order_itself p.parent) above.0,
        rest,
      )) rest

  rises_under : (ps : List Place) → Rises place_order ps → Rises sibling_order (map sibling_at (under parent ps))
  rises_under [] rising = tt
  rises_under (p ∷ ps) rising =
      let rest = rises_under ps rising.1 in
      by_tie (λ b. Rises sibling_order (map sibling_at (cond b (p ∷ under parent ps) (under parent ps)))) p.parent parent (λ here. (above_under p ps here rising.0, rest)) rest

  -- what a place adds to the tally of the siblings under the parent
  abbrev counted : Sibling → Place → ℕ
  counted q p = cond (ties p.parent parent) (one_at sibling_total q (sibling_at p)) 0

  tally-under : (q : Sibling) (ps : List Place) → tally sibling_total q (map sibling_at (under parent ps)) ≡ sum_by (counted q) ps
  tally-under q [] = refl
  tally-under q (p ∷ ps) =
      (elim (ties p.parent parent) as (λ b. tally sibling_total q (map sibling_at (cond b (p ∷ under parent ps) (under parent ps))) ≡ cond b (one_at sibling_total q (sibling_at p)) 0 + sum_by (counted q) ps) [
        | true ↦ sum_by-cons (one_at sibling_total q) (sibling_at p) (map sibling_at (under parent ps)) ∙ ap (λ n. one_at sibling_total q (sibling_at p) + n) (tally-under q ps)
        | false ↦ tally-under q ps ∙ sym (zero-add (sum_by (counted q) ps))
      ])
      ∙ sym (sum_by-cons (counted q) p ps)

  -- the places under a parent are its children
  same_children : (m : Pairs) → map sibling_at (under parent (places m)) ≡ map sibling_of (filter (is_child parent) m)
  same_children [] = refl
  same_children (e ∷ m) =
      let kept = λ (b : Bool). map place_of (cond b (e ∷ filter (λ e. is_shape e.0) m) (filter (λ e. is_shape e.0) m)) in
      elim (is_shape e.0) as (λ b. map sibling_at (under parent (kept b)) ≡ map sibling_of (cond (b && ties (text_or_empty e.1 (codes "parentId")) parent) (e ∷ filter (is_child parent) m) (filter (is_child parent) m))) [
        | true ↦
            elim (ties (text_or_empty e.1 (codes "parentId")) parent) as (λ t. map sibling_at (cond t (place_of e ∷ under parent (places m)) (under parent (places m))) ≡ map sibling_of (cond t (e ∷ filter (is_child parent) m) (filter (is_child parent) m))) [
              | true ↦ ap (λ ss. sibling_of e ∷ ss) (same_children m)
              | false ↦ same_children m
            ]
        | false ↦ same_children m
      ]

  ids_at : (ps : List Place) → map (λ p. p.id) ps ≡ map (λ s. s.id) (map sibling_at ps)
  ids_at [] = refl
  ids_at (p ∷ ps) = ap (λ ids. p.id ∷ ids) (ids_at ps)

  -- the part of an index under a parent has the children in order
  pub children_of_index : (m : Pairs) (index : List Place) → IsIndex m index → map (λ p. p.id) (under parent index) ≡ children m parent
  children_of_index m index is =
      ids_at (under parent index)
      ∙ ap (map (λ (s : Sibling). s.id))
      (in_order_is sibling_total same_sibling (map sibling_of (filter (is_child parent) m)) (map sibling_at (under parent index)) (rises_under index is.rising)
      (λ q.
      tally-under q index ∙ sum_by-IsPermutation (counted q) (places m) index is.same ∙ sym (tally-under q (places m)) ∙ ap (tally sibling_total q) (same_children m)))

-- the ids at borrowed places
pub ids_view : (ps : List borrowed.Place) → map (λ p. p.id.now) ps ≡ map (λ p. p.id) (places_view ps)
ids_view [] = refl
ids_view (p ∷ ps) = ap (λ ids. p.id.now ∷ ids) (ids_view ps)

pub children_of_part : (m : Pairs) (index : List Place) (parent : List ℕ) (part : List borrowed.Place) → IsIndex m index → places_view part ≡ under parent index → map (λ p. p.id.now) part ≡ children m parent
children_of_part m index parent part is same = ids_view part ∙ ap (map (λ (p : Place). p.id)) same ∙ children_of_index parent m index is

above-view : (p : borrowed.Place) (ps : List borrowed.Place) → AreNotLess (on place_view place_order) p ps → AreNotLess place_order (place_view p) (places_view ps)
above-view p [] above = tt
above-view p (q ∷ qs) above = (above.0, above-view p qs above.1)

rises-view : (ps : List borrowed.Place) → Rises (on place_view place_order) ps → Rises place_order (places_view ps)
rises-view [] rising = tt
rises-view (p ∷ ps) rising = (above-view p ps rising.0, rises-view ps rising.1)

-- what sorting the places of a map leaves
pub index_from_sorted : (m : Pairs) (ps qs : List borrowed.Place) → places_view ps ≡ places m → IsPermutation ps qs → IsSortedBy (λ p q. is_lt (place_order (place_view p) (place_view q))) qs → IsIndex m (places_view qs)
index_from_sorted m ps qs whole moved sorted = record {
  same = subst (λ (all : List Place). IsPermutation all (places_view qs)) whole (IsPermutation-map place_view ps qs moved);
  rising = rises-view qs (rises_from_sorted (on_total place_view place_total) qs sorted);
}
