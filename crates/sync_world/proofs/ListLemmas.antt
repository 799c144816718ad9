-- What stands at the places of lists.
use Rattle.std.proofs.Common.{◌≡◌, ℕ, zero, suc, ◌<◌, ◌≤◌, List, [], ◌∷◌, length, get_or, slice_get, slice_set, Some, None, refl, sym, ap, arith}

module _ {X : Type 0} where
  -- below the length something stands
  pub got_some : (xs : List X) (n : ℕ) → n < length xs → (x : X) × (slice_get xs n ≡ Some x)
  got_some [] n less = absurd (omega arith)
  got_some (x ∷ xs) zero less = (x, refl)
  got_some (x ∷ xs) (suc n) less = got_some xs n (omega arith)

  -- from the length on nothing does
  pub got_none : (xs : List X) (n : ℕ) → length xs ≤ n → slice_get xs n ≡ None
  got_none [] n more = refl
  got_none (x ∷ xs) zero more = absurd (omega arith)
  got_none (x ∷ xs) (suc n) more = got_none xs n (omega arith)

  -- what is read at a place stands there
  pub got_item : (xs : List X) (n : ℕ) (x : X) → n < length xs → x ≡ get_or xs n x → slice_get xs n ≡ Some x
  got_item [] n x less is = absurd (omega arith)
  got_item (y ∷ xs) zero x less is = ap (λ z. Some z) (sym is)
  got_item (y ∷ xs) (suc n) x less is = got_item xs n x (omega arith) is

  -- nothing is set from the length on
  pub set_past : (xs : List X) (n : ℕ) (x : X) → length xs ≤ n → slice_set xs n x ≡ xs
  set_past [] n x more = refl
  set_past (y ∷ xs) zero x more = absurd (omega arith)
  set_past (y ∷ xs) (suc n) x more = ap (λ ys. y ∷ ys) (set_past xs n x (omega arith))

  -- the later of two that are set at a place stands
  pub set_twice : (xs : List X) (n : ℕ) (x y : X) → slice_set (slice_set xs n x) n y ≡ slice_set xs n y
  set_twice [] n x y = refl
  set_twice (z ∷ xs) zero x y = refl
  set_twice (z ∷ xs) (suc n) x y = ap (λ ys. z ∷ ys) (set_twice xs n x y)

  -- to set what stands there changes nothing
  pub set_again : (xs : List X) (n : ℕ) (x : X) → slice_get xs n ≡ Some x → slice_set xs n x ≡ xs
  set_again [] n x at = refl
  set_again (y ∷ xs) zero x at = let same : y ≡ x = cc in ap (λ z. z ∷ xs) (sym same)
  set_again (y ∷ xs) (suc n) x at = ap (λ ys. y ∷ ys) (set_again xs n x at)
