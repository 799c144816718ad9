-- Lists: what stands at a place, how many pass a test, and which passes first.
use Rattle.std.proofs.Common.{◌≡◌, ◌⊎◌, inl, inr, ℕ, zero, suc, ◌+◌, ◌≤◌, ◌<◌, Bool, true, false, cond, List, [], ◌∷◌, ◌++◌, length, get_or, slice_get, slice_set, position, count_by, nat_lt, Option, Some, None, refl, sym, ap, subst, ◌∙◌, arith}
use Rattle.std.specs.List.{position_or_len}
use Rattle.std.proofs.lemmas.Bool.Decides.{nat_tests}
use Rattle.std.proofs.lemmas.List.Quantifiers.{position-Some}
use Rattle.std.proofs.lemmas.List.Sums.{sum_by-set, fails_before_first}
use Rattle.std.proofs.lemmas.Option.{slice_get_within, get_or_from_slice_get, slice_get-get_or}

-- one, if a test is passed
abbrev pub one_if : Bool → ℕ
one_if b = cond b 1 0

module _ {X : Type 0} where
  -- what stood at a place still does after one is added
  pub got_before : (xs ys : List X) (k : ℕ) (z : X) → slice_get xs k ≡ Some z → slice_get (xs ++ ys) k ≡ Some z
  got_before [] ys k z is = absurd (cc)
  got_before (x ∷ xs) ys zero z is = is
  got_before (x ∷ xs) ys (suc k) z is = got_before xs ys k z is

  -- the added one stands last
  pub got_last : (xs : List X) (y : X) → slice_get (xs ++ y ∷ []) (length xs) ≡ Some y
  got_last [] y = refl
  got_last (x ∷ xs) y = got_last xs y

  -- after one is added, each is that one at its place or was there
  pub got_either : (xs : List X) (k : ℕ) (y z : X) → slice_get (xs ++ y ∷ []) k ≡ Some z → ((k ≡ length xs) × (y ≡ z)) ⊎ (slice_get xs k ≡ Some z)
  got_either [] zero y z is = let same : y ≡ z = cc in inl (refl, same)
  got_either [] (suc k) y z is = absurd (cc)
  got_either (x ∷ xs) zero y z is = inr is
  got_either (x ∷ xs) (suc k) y z is = elim (got_either xs k y z is) [ inl last ↦ inl (ap suc last.0, last.1) | inr before ↦ inr before ]

  -- the one at a place after it is set, and each other
  pub set_here : (xs : List X) (n : ℕ) (x y : X) → slice_get xs n ≡ Some x → slice_get (slice_set xs n y) n ≡ Some y
  set_here [] n x y at = absurd (cc)
  set_here (z ∷ xs) zero x y at = refl
  set_here (z ∷ xs) (suc n) x y at = set_here xs n x y at

  pub set_there : (xs : List X) (n k : ℕ) (y : X) → (k ≡ n → ⊥) → slice_get (slice_set xs n y) k ≡ slice_get xs k
  set_there [] n k y apart = refl
  set_there (z ∷ xs) zero zero y apart = absurd (apart refl)
  set_there (z ∷ xs) zero (suc k) y apart = refl
  set_there (z ∷ xs) (suc n) zero y apart = refl
  set_there (z ∷ xs) (suc n) (suc k) y apart = set_there xs n k y (λ is. apart (ap suc is))

  -- how many pass a test after one is set
  pub count_set : (p : X → Bool) (xs : List X) (n : ℕ) (x y : X) → slice_get xs n ≡ Some x → count_by p (slice_set xs n y) + one_if (p x) ≡ count_by p xs + one_if (p y)
  count_set p xs n x y at =
      subst (λ z. count_by p (slice_set xs n y) + one_if (p z) ≡ count_by p xs + one_if (p y)) (get_or_from_slice_get xs n x x at)
      (sum_by-set (λ z. one_if (p z)) xs n y x (slice_get_within xs n x at))

  -- where a test first passes nowhere, it passes at none
  none_passes : (p : X → Bool) (xs : List X) (k : ℕ) (x : X) → position p xs ≡ None → slice_get xs k ≡ Some x → p x ≡ false
  none_passes p xs k x is at =
      let less = slice_get_within xs k x at in
      let same = get_or_from_slice_get xs k x x at in
      let place = position_or_len p xs in
      elim (nat_lt place (length xs)) as (λ b. nat_lt place (length xs) ≡ b → cond b (Some place) None ≡ None → p x ≡ false) [
        | true ↦ λ t none. absurd (cc)
        | false ↦ λ t none. let before : k < place = grind (arith, nat_tests) in subst (λ y. p y ≡ false) same (fails_before_first p xs k x before)
      ] refl is

  -- the first that passes a test is the one at a place, if that passes and none before it does
  pub first_passes : (p : X → Bool) (xs : List X) (k : ℕ) (x : X) → slice_get xs k ≡ Some x → p x ≡ true
      → ((j : ℕ) (y : X) → slice_get xs j ≡ Some y → p y ≡ true → k ≤ j) → position p xs ≡ Some k
  first_passes p xs k x at passes least =
      elim (position p xs) as (λ o. position p xs ≡ o → o ≡ Some k) [
        | None ↦ λ is. absurd (let fails = none_passes p xs k x is at in cc)
        | Some i ↦ λ is.
            let first = position-Some p xs i x is in
            let low = least i (get_or xs i x) (slice_get-get_or xs i x first.0) first.1 in
            elim (nat_lt k i) as (λ b. nat_lt k i ≡ b → Some i ≡ Some k) [
              | true ↦ λ before. absurd (
                  let earlier : k < i = grind (arith, nat_tests) in
                  let no = first.2 k earlier in
                  let same = ap p (get_or_from_slice_get xs k x x at) in
                  cc)
              | false ↦ λ after. let it : i ≡ k = grind (arith, nat_tests) in ap Some it
            ] refl
      ] refl

  -- and there is none, if none passes
  pub first_none : (p : X → Bool) (xs : List X) → ((j : ℕ) (y : X) → slice_get xs j ≡ Some y → p y ≡ true → ⊥) → position p xs ≡ None
  first_none p [] fails = refl
  first_none p (x ∷ xs) fails =
      elim (position p (x ∷ xs)) as (λ o. position p (x ∷ xs) ≡ o → o ≡ None) [
        | None ↦ λ is. refl
        | Some i ↦ λ is.
            let first = position-Some p (x ∷ xs) i x is in
            absurd (fails i (get_or (x ∷ xs) i x) (slice_get-get_or (x ∷ xs) i x first.0) first.1)
      ] refl
