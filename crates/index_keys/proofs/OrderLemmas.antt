-- The order of lists of numbers, by cases on their first elements.
use Rattle.std.proofs.Common.{◌≡◌, ◌≢◌, true, ℕ, zero, suc, ◌<◌, List, [], ◌∷◌, ◌++◌, Some, Ordering, ◌⊎◌, inl, inr, All, length, map, replicate, refl, ap, arith}
use Rattle.std.proofs.lemmas.Bool.Decides.{nat_tests}
use Rattle.std.proofs.lemmas.List.Elements.{All-head, All-tail}
use Rattle.std.specs.Cmp.Lexicographic.{slice_cmp, slice_partial_cmp}
use Rattle.std.specs.Ordering.{nat_cmp, ordering_then, partial_ordering_then, is_lt, is_some_and}
use Rattle.index_keys.specs.Order.{is_less}

-- the first list is less: a front of the second, or less at the first place where they differ
abbrev pub Below : List ℕ → List ℕ → Type 0
Below [] [] = ⊥
Below [] (y ∷ ys) = Unit {0}
Below (x ∷ xs) [] = ⊥
Below (x ∷ xs) (y ∷ ys) = (x < y) ⊎ ((x ≡ y) × Below xs ys)

-- the first list is less at a place that both have
abbrev pub Before : List ℕ → List ℕ → Type 0
Before [] ys = ⊥
Before (x ∷ xs) [] = ⊥
Before (x ∷ xs) (y ∷ ys) = (x < y) ⊎ ((x ≡ y) × Before xs ys)

-- what the test for less says of two lists that are not empty
is_less-cons : (x y : ℕ) (xs ys : List ℕ) → is_less (x ∷ xs) (y ∷ ys) ≡ true → (x < y) ⊎ ((x ≡ y) × (is_less xs ys ≡ true))
is_less-cons x y xs ys less = grind (arith, nat_tests)

is_less-first : (x y : ℕ) (xs ys : List ℕ) → x < y → is_less (x ∷ xs) (y ∷ ys) ≡ true
is_less-first x y xs ys less = grind (arith, nat_tests)

is_less-rest : (x y : ℕ) (xs ys : List ℕ) → x ≡ y → is_less xs ys ≡ true → is_less (x ∷ xs) (y ∷ ys) ≡ true
is_less-rest x y xs ys same less = grind (arith, nat_tests)

-- the test for less tells it
pub Below-from_test : (xs ys : List ℕ) → is_less xs ys ≡ true → Below xs ys
Below-from_test [] [] less = cc
Below-from_test [] (y ∷ ys) less = tt
Below-from_test (x ∷ xs) [] less = cc
Below-from_test (x ∷ xs) (y ∷ ys) less =
    elim (is_less-cons x y xs ys less) [
      | inl first ↦ inl first
      | inr rest ↦ inr (rest.0, Below-from_test xs ys rest.1)
    ]

-- and is told by it
pub test-from_Below : (xs ys : List ℕ) → Below xs ys → is_less xs ys ≡ true
test-from_Below [] [] below = absurd below
test-from_Below [] (y ∷ ys) below = refl
test-from_Below (x ∷ xs) [] below = absurd below
test-from_Below (x ∷ xs) (y ∷ ys) below =
    elim below [
      | inl first ↦ is_less-first x y xs ys first
      | inr rest ↦ is_less-rest x y xs ys rest.0 (test-from_Below xs ys rest.1)
    ]

-- less at a place is less, whatever follows
pub Below-from_Before : (xs ys us vs : List ℕ) → Before xs ys → Below (xs ++ us) (ys ++ vs)
Below-from_Before [] ys us vs before = absurd before
Below-from_Before (x ∷ xs) [] us vs before = absurd before
Below-from_Before (x ∷ xs) (y ∷ ys) us vs before =
    elim before [
      | inl first ↦ inl first
      | inr rest ↦ inr (rest.0, Below-from_Before xs ys us vs rest.1)
    ]

-- a list stays less after what both begin with
pub Below-after_same : (front xs ys : List ℕ) → Below xs ys → Below (front ++ xs) (front ++ ys)
Below-after_same [] xs ys below = below
Below-after_same (f ∷ front) xs ys below = inr (refl, Below-after_same front xs ys below)

-- and without it
pub Below-rests : (front xs ys : List ℕ) → Below (front ++ xs) (front ++ ys) → Below xs ys
Below-rests [] xs ys below = below
Below-rests (f ∷ front) xs ys below =
    elim below [
      | inl first ↦ absurd (omega arith)
      | inr rest ↦ Below-rests front xs ys rest.1
    ]

-- of fronts as long as each other that differ, the front of the less list is less
pub Before-fronts : (xs ys us vs : List ℕ) → length xs ≡ length ys → xs ≢ ys → Below (xs ++ us) (ys ++ vs) → Before xs ys
Before-fronts [] [] us vs same_length differ below = absurd (differ refl)
Before-fronts [] (y ∷ ys) us vs same_length differ below = absurd (omega arith)
Before-fronts (x ∷ xs) [] us vs same_length differ below = absurd (omega arith)
Before-fronts (x ∷ xs) (y ∷ ys) us vs same_length differ below =
    elim below [
      | inl first ↦ inl first
      | inr rest ↦ inr (rest.0, Before-fronts xs ys us vs (omega arith) (λ same. differ (let here : x ≡ y = rest.0 in cc)) rest.1)
    ]

-- nothing is less than `0` again and again
pub Before-zeros : (xs : List ℕ) (n : ℕ) → Before xs (replicate n 0) → ⊥
Before-zeros [] n before = before
Before-zeros (x ∷ xs) zero before = before
Before-zeros (x ∷ xs) (suc n) before =
    elim before [
      | inl first ↦ omega arith
      | inr rest ↦ Before-zeros xs n rest.1
    ]

-- a map that rises keeps the order
pub Below-map : (f : ℕ → ℕ) (P : ℕ → Type 0) → ((v w : ℕ) → P v → P w → v < w → f v < f w) → (xs ys : List ℕ) → All P xs → All P ys → Below xs ys → Below (map f xs) (map f ys)
Below-map f P rises [] [] all_xs all_ys below = below
Below-map f P rises [] (y ∷ ys) all_xs all_ys below = tt
Below-map f P rises (x ∷ xs) [] all_xs all_ys below = below
Below-map f P rises (x ∷ xs) (y ∷ ys) all_xs all_ys below =
    elim below [
      | inl first ↦ inl (rises x y (All-head P x xs all_xs) (All-head P y ys all_ys) first)
      | inr rest ↦ inr (ap f rest.0, Below-map f P rises xs ys (All-tail P x xs all_xs) (All-tail P y ys all_ys) rest.1)
    ]

-- less than a list that has elements is none
pub Below-nil : (ys : List ℕ) → 0 < length ys → Below [] ys
Below-nil [] some = absurd (omega arith)
Below-nil (y ∷ ys) some = tt

-- `<` of two slices of numbers, as `cmp` has it
pub slice_partial_cmp-nat : (xs ys : List ℕ) → slice_partial_cmp (λ x y. Some (nat_cmp x y)) xs ys ≡ Some (slice_cmp nat_cmp xs ys)
slice_partial_cmp-nat [] [] = refl
slice_partial_cmp-nat [] (y ∷ ys) = refl
slice_partial_cmp-nat (x ∷ xs) [] = refl
slice_partial_cmp-nat (x ∷ xs) (y ∷ ys) = rw (slice_partial_cmp-nat xs ys) (then_some (nat_cmp x y) (slice_cmp nat_cmp xs ys))
  where
    then_some : (o p : Ordering) → partial_ordering_then (Some o) (Some p) ≡ Some (ordering_then o p)
    then_some o p = grind arith

-- the test that `<` makes
pub lt-is_less : (xs ys : List ℕ) → is_some_and is_lt (slice_partial_cmp (λ x y. Some (nat_cmp x y)) xs ys) ≡ is_less xs ys
lt-is_less xs ys = ap (is_some_and is_lt) (slice_partial_cmp-nat xs ys)

pub ruleset comparing = (lt-is_less, slice_partial_cmp-nat)
