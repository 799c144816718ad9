-- A list from a place on: its first element and what follows it.
use Rattle.std.proofs.Common.{◌≡◌, ℕ, zero, suc, ◌+◌, ◌<◌, length, get_or, drop, drop-cons, add-one, List, [], ◌∷◌, Some, None, slice_get, refl, sym, ap, ◌∙◌}
use Rattle.std.proofs.lemmas.Option.{slice_get_within, get_or_from_slice_get}

module _ {X : Type 0} where
  pub one_off : (xs : List X) (i : ℕ) (x : X) → i < length xs → x ≡ get_or xs i x → drop i xs ≡ x ∷ drop (i + 1) xs
  one_off xs i x within here = rw add-one (drop-cons xs i x within ∙ ap (λ y. y ∷ drop (suc i) xs) (sym here))

  -- the same by the element that is there
  pub one_off_at : (xs : List X) (i : ℕ) (x : X) → Some x ≡ slice_get xs i → drop i xs ≡ x ∷ drop (i + 1) xs
  one_off_at xs i x there = one_off xs i x (slice_get_within xs i x (sym there)) (sym (get_or_from_slice_get xs i x x (sym there)))

  pub none_left : (xs : List X) (i : ℕ) → None ≡ slice_get xs i → drop i xs ≡ []
  none_left [] zero none = refl
  none_left [] (suc i) none = refl
  none_left (x ∷ xs) zero none = cc
  none_left (x ∷ xs) (suc i) none = none_left xs i none
