-- A list in order is told by how often each item stands in it.
use Rattle.std.proofs.Common.{◌≡◌, ℕ, suc, ◌+◌, ◌≤◌, ◌<◌, List, [], ◌∷◌, true, false, cond, if◌then◌else◌, refl, sym, ap, ◌∙◌, arith, get_or, length, true≢false}
use Rattle.std.specs.Prelude.{IsSortedBy}
use Rattle.std.specs.List.{sum_by}
use Rattle.std.specs.Cmp.{IsTotalOrder, alike_right, tied_itself}
use Rattle.std.specs.Ordering.{is_lt, is_eq, ordering_reverse}
use Rattle.std.specs.declared.cmp.Ordering.{Ordering}
use Rattle.std.specs.declared.cmp.Ordering.TheVariants.{Less, Equal, Greater}
use Rattle.std.proofs.lemmas.List.Sums.{sum_by-cons}
use Rattle.std.proofs.lemmas.List.Sorted.{sorted_far, ranks_by}
use Rattle.shape_tree.specs.Sorting.{inserted, in_order}
use Rattle.shape_tree.specs.Index.{AreNotLess, Rises}
use Rattle.rooms_val.proofs.Truths.{is_Less}

module _ {X : Type 0} {R : X → X → Ordering} (o : IsTotalOrder R) where
  -- 1 for an item that ties with q
  abbrev pub one_at : X → X → ℕ
  one_at q x = cond (is_eq (R q x)) 1 0

  -- how many items tie with q
  abbrev pub tally : X → List X → ℕ
  tally q xs = sum_by (one_at q) xs

  one_itself : (x : X) → one_at x x ≡ 1
  one_itself x = ap {B = ℕ} (λ w. cond (is_eq w) 1 0) (tied_itself o x)

  lower_by : (x y z : X) (w : Ordering) → R z y ≡ w → R x y ≡ Less → is_lt w ≡ false → R x z ≡ Less
  lower_by x y z Less e below above = absurd (true≢false above)
  lower_by x y z Equal e below above = alike_right o z y x e ∙ below
  lower_by x y z Greater e below above = o.trans x y z below (o.antisymm y z ∙ ap ordering_reverse e)

  -- what is below y is below what isn't below y
  lower : (x y z : X) → R x y ≡ Less → is_lt (R z y) ≡ false → R x z ≡ Less
  lower x y z below above = lower_by x y z (R z y) refl below above

  not_less : (x y : X) → R x y ≡ Less → is_lt (R y x) ≡ false
  not_less x y below = ap is_lt (o.antisymm y x ∙ ap ordering_reverse below)

  all_lower : (x y : X) (ys : List X) → R x y ≡ Less → AreNotLess R y ys → AreNotLess R x ys
  all_lower x y [] below above = tt
  all_lower x y (z ∷ zs) below above = (not_less x z (lower x y z below above.0), all_lower x y zs below above.1)

  absent : (q y : X) (ys : List X) → R q y ≡ Less → AreNotLess R y ys → tally q ys ≡ 0
  absent q y [] below above = refl
  absent q y (z ∷ zs) below above =
      omega (arith, sum_by-cons (one_at q) z zs, ap {B = ℕ} (λ w. cond (is_eq w) 1 0) (lower q y z below above.0), absent q y zs below above.1)

  -- what is below the first of a list in order doesn't stand in it
  beyond : (q y : X) (ys : List X) → R q y ≡ Less → Rises R (y ∷ ys) → tally q (y ∷ ys) ≡ 0
  beyond q y ys below rising =
      omega (arith, sum_by-cons (one_at q) y ys, ap {B = ℕ} (λ w. cond (is_eq w) 1 0) below, absent q y ys below rising.0)

  tally-inserted : (q x : X) (ys : List X) → tally q (inserted R x ys) ≡ one_at q x + tally q ys
  tally-inserted q x [] = sum_by-cons (one_at q) x []
  tally-inserted q x (y ∷ ys) =
      elim (is_lt (R x y)) as (λ b. tally q (if b then x ∷ y ∷ ys else y ∷ inserted R x ys) ≡ one_at q x + tally q (y ∷ ys)) [
        | true ↦ sum_by-cons (one_at q) x (y ∷ ys)
        | false ↦ omega (arith, sum_by-cons (one_at q) y (inserted R x ys), sum_by-cons (one_at q) y ys, tally-inserted q x ys)
      ]

  tally-in_order : (q : X) (xs : List X) → tally q (in_order R xs) ≡ tally q xs
  tally-in_order q [] = refl
  tally-in_order q (x ∷ xs) = tally-inserted q x (in_order R xs) ∙ ap (λ n. one_at q x + n) (tally-in_order q xs) ∙ sym (sum_by-cons (one_at q) x xs)

  above-inserted : (y x : X) (ys : List X) → is_lt (R x y) ≡ false → AreNotLess R y ys → AreNotLess R y (inserted R x ys)
  above-inserted y x [] above rest = (above, tt)
  above-inserted y x (z ∷ zs) above rest =
      elim (is_lt (R x z)) as (λ b. AreNotLess R y (if b then x ∷ z ∷ zs else z ∷ inserted R x zs)) [
        | true ↦ (above, rest)
        | false ↦ (rest.0, above-inserted y x zs above rest.1)
      ]

  rises-inserted : (x : X) (ys : List X) → Rises R ys → Rises R (inserted R x ys)
  rises-inserted x [] rising = (tt, tt)
  rises-inserted x (y ∷ ys) rising =
      (elim (is_lt (R x y)) as (λ b. is_lt (R x y) ≡ b → Rises R (if b then x ∷ y ∷ ys else y ∷ inserted R x ys)) [
        | true ↦ λ e. ((not_less x y (is_Less (R x y) e), all_lower x y ys (is_Less (R x y) e) rising.0), rising)
        | false ↦ λ e. (above-inserted y x ys e rising.0, rises-inserted x ys rising.1)
      ]) refl

  rises-in_order : (xs : List X) → Rises R (in_order R xs)
  rises-in_order [] = tt
  rises-in_order (x ∷ xs) = rises-inserted x (in_order R xs) (rises-in_order xs)

  module _ (same : (x y : X) → R x y ≡ Equal → x ≡ y) where
    first_by : (x y : X) (xs ys : List X) → Rises R (x ∷ xs) → Rises R (y ∷ ys) → ((q : X) → tally q (x ∷ xs) ≡ tally q (y ∷ ys)) → (w : Ordering) → R x y ≡ w → x ≡ y
    first_by x y xs ys left right counts Less e =
        absurd (omega (arith, counts x, sum_by-cons (one_at x) x xs, one_itself x, beyond x y ys e right))
    first_by x y xs ys left right counts Equal e = same x y e
    first_by x y xs ys left right counts Greater e =
        absurd (omega (arith, counts y, sum_by-cons (one_at y) y ys, one_itself y, beyond y x xs (o.antisymm y x ∙ ap ordering_reverse e) left))

    -- two lists in order, in which each item stands as often, are the same
    unique : (xs ys : List X) → Rises R xs → Rises R ys → ((q : X) → tally q xs ≡ tally q ys) → xs ≡ ys
    unique [] [] left right counts = refl
    unique [] (y ∷ ys) left right counts = absurd (omega (arith, counts y, sum_by-cons (one_at y) y ys, one_itself y))
    unique (x ∷ xs) [] left right counts = absurd (omega (arith, counts x, sum_by-cons (one_at x) x xs, one_itself x))
    unique (x ∷ xs) (y ∷ ys) left right counts =
        let e = first_by x y xs ys left right counts (R x y) refl in
        let rest = unique xs ys left.1 right.1 (λ q. omega (arith, counts q, sum_by-cons (one_at q) x xs, sum_by-cons (one_at q) y ys, ap (one_at q) e)) in
        λ i. e i ∷ rest i

    -- what is in order, and has each item as often as a list, is that list in order
    pub in_order_is : (xs ys : List X) → Rises R ys → ((q : X) → tally q ys ≡ tally q xs) → ys ≡ in_order R xs
    in_order_is xs ys rising counts = unique ys (in_order R xs) rising (rises-in_order xs) (λ q. counts q ∙ sym (tally-in_order q xs))

  above_from : (x : X) (zs : List X) → ((j : ℕ) (d : X) → j < length zs → is_lt (R (get_or zs j d) x) ≡ false) → AreNotLess R x zs
  above_from x [] at = tt
  above_from x (z ∷ zs) at = (at 0 z (omega arith), above_from x zs (λ j d h. at (suc j) d (omega arith)))

  rises_from_far : (xs : List X) → ((i j : ℕ) (d : X) → i ≤ j → j < length xs → is_lt (R (get_or xs j d) (get_or xs i d)) ≡ false) → Rises R xs
  rises_from_far [] far = tt
  rises_from_far (x ∷ xs) far =
      (above_from x xs (λ j d h. far 0 (suc j) d (omega arith) (omega arith)), rises_from_far xs (λ i j d le h. far (suc i) (suc j) d (omega arith) (omega arith)))

  -- what a sort leaves
  pub rises_from_sorted : (xs : List X) → IsSortedBy (λ x y. is_lt (R x y)) xs → Rises R xs
  rises_from_sorted xs up = rises_from_far xs (sorted_far (λ x y. is_lt (R x y)) (ranks_by o (λ (x : X). x)) xs up)
