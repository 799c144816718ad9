-- The places under a parent are a part of sorted places.
use Rattle.std.proofs.Common.{◌≡◌, ℕ, zero, suc, ◌<◌, ◌≤◌, List, [], ◌∷◌, Bool, true, false, cond, refl, sym, ap, ◌∙◌, arith, true≢false, get_or, length, take, drop}
use Rattle.std.specs.Cmp.{alike_right}
use Rattle.std.specs.Cmp.Lexicographic.{nat_list_cmp_total}
use Rattle.std.specs.Ordering.{is_lt, is_le, is_eq, ordering_then, ordering_reverse}
use Rattle.std.specs.List.Sorted.{IsPartitionedBy, IsPartitionPoint}
use Rattle.std.specs.declared.cmp.Ordering.{Ordering}
use Rattle.std.specs.declared.cmp.Ordering.TheVariants.{Less, Equal, Greater}
use Rattle.rooms_val.specs.Maps.{order}
use Rattle.shape_tree.specs.declared.place.Place as borrowed
use Rattle.shape_tree.specs.Index.{place_view, places_view, place_order, under, AreNotLess, Rises}

-- tests of one comparison
first_not_less : (a b c : Ordering) → is_lt (ordering_then a (ordering_then b c)) ≡ false → is_lt a ≡ false
first_not_less Less b c e = e
first_not_less Equal b c e = refl
first_not_less Greater b c e = refl

not_less-equal : (w : Ordering) → is_lt w ≡ true → is_eq w ≡ false
not_less-equal Less e = refl
not_less-equal Equal e = absurd (true≢false (sym e))
not_less-equal Greater e = refl

not_above-equal : (w : Ordering) → is_le w ≡ false → is_eq w ≡ false
not_above-equal Less e = refl
not_above-equal Equal e = absurd (true≢false e)
not_above-equal Greater e = refl

equal-between : (w : Ordering) → is_lt w ≡ false → is_le w ≡ true → is_eq w ≡ true
equal-between Less below upto = absurd (true≢false below)
equal-between Equal below upto = refl
equal-between Greater below upto = absurd (true≢false (sym upto))

less_by : (x y p : List ℕ) (v w : Ordering) → order y x ≡ v → is_lt v ≡ false → order y p ≡ w → is_lt w ≡ true → is_lt (order x p) ≡ true
less_by x y p Less w e above f test = absurd (true≢false above)
less_by x y p v Equal e above f test = absurd (true≢false (sym test))
less_by x y p v Greater e above f test = absurd (true≢false (sym test))
less_by x y p Equal Less e above f test = ap is_lt (sym (nat_list_cmp_total.congr y x p e) ∙ f)
less_by x y p Greater Less e above f test = ap is_lt (nat_list_cmp_total.trans x y p (nat_list_cmp_total.antisymm x y ∙ ap ordering_reverse e) f)

upto_by : (x y p : List ℕ) (v w : Ordering) → order y x ≡ v → is_lt v ≡ false → order y p ≡ w → is_le w ≡ true → is_le (order x p) ≡ true
upto_by x y p Less w e above f test = absurd (true≢false above)
upto_by x y p v Greater e above f test = absurd (true≢false (sym test))
upto_by x y p Equal w e above f test = ap is_le (sym (nat_list_cmp_total.congr y x p e) ∙ f) ∙ test
upto_by x y p Greater Less e above f test = ap is_le (nat_list_cmp_total.trans x y p (nat_list_cmp_total.antisymm x y ∙ ap ordering_reverse e) f)
upto_by x y p Greater Equal e above f test = ap is_le (sym (alike_right nat_list_cmp_total y p x f) ∙ nat_list_cmp_total.antisymm x y ∙ ap ordering_reverse e)

-- an item of places that aren't less
not_less_at : (x : _) (ps : List borrowed.Place) → AreNotLess place_order x (places_view ps) → (j : ℕ) (d : borrowed.Place) → j < length ps → is_lt (place_order (place_view (get_or ps j d)) x) ≡ false
not_less_at x [] above j d within = absurd (omega arith)
not_less_at x (p ∷ ps) above zero d within = above.0
not_less_at x (p ∷ ps) above (suc j) d within = not_less_at x ps above.1 j d (omega arith)

module _ (test : borrowed.Place → Bool) (falls : (p q : borrowed.Place) → is_lt (order q.parent.now p.parent.now) ≡ false → test q ≡ true → test p ≡ true) where
  -- a test that what comes before passes too parts sorted places
  parted : (ps : List borrowed.Place) → Rises place_order (places_view ps) → (i j : ℕ) (d : borrowed.Place) → i ≤ j → j < length ps → test (get_or ps j d) ≡ true → test (get_or ps i d) ≡ true
  parted [] rising i j d before within passes = absurd (omega arith)
  parted (p ∷ ps) rising zero zero d before within passes = passes
  parted (p ∷ ps) rising zero (suc j) d before within passes =
      let q = get_or ps j d in
      falls p q
      (first_not_less (order q.parent.now p.parent.now) (order q.index.now p.index.now) (order q.id.now p.id.now) (not_less_at (place_view p) ps rising.0 j d (omega arith))) passes
  parted (p ∷ ps) rising (suc i) zero d before within passes = absurd (omega arith)
  parted (p ∷ ps) rising (suc i) (suc j) d before within passes = parted ps rising.1 i j d (omega arith) (omega arith) passes

module _ (parent : List ℕ) where
  abbrev pub is_below : borrowed.Place → Bool
  is_below p = is_lt (order p.parent.now parent)

  abbrev pub is_upto : borrowed.Place → Bool
  is_upto p = is_le (order p.parent.now parent)

  pub parted_below : (ps : List borrowed.Place) → Rises place_order (places_view ps) → IsPartitionedBy is_below ps
  parted_below = parted is_below (λ p q above passes. less_by p.parent.now q.parent.now parent (order q.parent.now p.parent.now) (order q.parent.now parent) refl above refl passes)

  pub parted_upto : (ps : List borrowed.Place) → Rises place_order (places_view ps) → IsPartitionedBy is_upto ps
  parted_upto = parted is_upto (λ p q above passes. upto_by p.parent.now q.parent.now parent (order q.parent.now p.parent.now) (order q.parent.now parent) refl above refl passes)

  none_under : (ps : List borrowed.Place) → ((j : ℕ) (d : borrowed.Place) → j < length ps → is_upto (get_or ps j d) ≡ false) → under parent (places_view ps) ≡ []
  none_under [] past = refl
  none_under (p ∷ ps) past =
      ap (λ b. cond b (place_view p ∷ under parent (places_view ps)) (under parent (places_view ps))) (not_above-equal (order p.parent.now parent) (past 0 p (omega arith)))
      ∙ none_under ps (λ j d within. past (suc j) d (omega arith))

  front_under : (ps : List borrowed.Place) (end : ℕ)
      → ((j : ℕ) (d : borrowed.Place) → j < length ps → is_below (get_or ps j d) ≡ false)
      → ((j : ℕ) (d : borrowed.Place) → j < length ps → j < end → is_upto (get_or ps j d) ≡ true)
      → ((j : ℕ) (d : borrowed.Place) → j < length ps → end ≤ j → is_upto (get_or ps j d) ≡ false)
      → under parent (places_view ps) ≡ places_view (take end ps)
  front_under ps zero from upto past = none_under ps (λ j d within. past j d within (omega arith))
  front_under [] (suc end) from upto past = refl
  front_under (p ∷ ps) (suc end) from upto past =
      ap (λ b. cond b (place_view p ∷ under parent (places_view ps)) (under parent (places_view ps))) (equal-between (order p.parent.now parent) (from 0 p (omega arith)) (upto 0 p (omega arith) (omega arith)))
      ∙ ap (λ rest. place_view p ∷ rest)
      (front_under ps end (λ j d within. from (suc j) d (omega arith)) (λ j d within before. upto (suc j) d (omega arith) (omega arith)) (λ j d within after. past (suc j) d (omega arith) (omega arith)))

  -- what is between the places of lesser parents and those of greater ones
  pub part_under : (ps : List borrowed.Place) (start end : ℕ)
      → IsPartitionPoint (λ p. is_below p ≡ true) (λ p. is_below p ≡ false) ps start
      → IsPartitionPoint (λ p. is_upto p ≡ true) (λ p. is_upto p ≡ false) (drop start ps) end
      → under parent (places_view ps) ≡ places_view (take end (drop start ps))
  part_under ps zero end below upto =
      front_under ps end (λ j d here. below.1 j d (omega arith) here) (λ j d here before. upto.0 j d (omega arith) before) (λ j d here after. upto.1 j d after here)
  part_under [] (suc start) zero below upto = refl
  part_under [] (suc start) (suc end) below upto = refl
  part_under (p ∷ ps) (suc start) end below upto =
      ap (λ b. cond b (place_view p ∷ under parent (places_view ps)) (under parent (places_view ps))) (not_less-equal (order p.parent.now parent) (below.0 0 p (omega arith) (omega arith)))
      ∙ part_under ps start end ((λ j d low high. below.0 (suc j) d (omega arith) (omega arith)), (λ j d low high. below.1 (suc j) d (omega arith) (omega arith))) upto

  pub rises-drop : (ps : List borrowed.Place) (start : ℕ) → Rises place_order (places_view ps) → Rises place_order (places_view (drop start ps))
  rises-drop ps zero rising = rising
  rises-drop [] (suc start) rising = tt
  rises-drop (p ∷ ps) (suc start) rising = rises-drop ps start rising.1
