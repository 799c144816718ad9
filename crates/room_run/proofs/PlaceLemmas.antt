-- Places of lists, read by get_elem?, once one place changes or one more comes.
use Rattle.std.proofs.Common.{◌≡◌, ◌≢◌, ◌⊎◌, ℕ, zero, suc, ◌+◌, List, [], ◌∷◌, ◌++◌, map, length, set, refl, sym, ap, ◌∙◌, subst, inl, inr, ⊎_elim, arith, append_assoc}
use mathlib.Core.List.{IsPrefix}
use mathlib.Core.Option.{some, some-injective, some-ne-none}
use lib.ListN.{get_elem?}
use Rattle.atomic_table.proofs.Lists.{at_set}

module _ {A : Type 0} where
  -- what holds of a value at its place, and of all others at theirs, holds of all once that value stands there
  pub each : (P : ℕ → A → Type 0) (xs : List A) (i : ℕ) (a : A) → ((k : ℕ) (x : A) → k ≢ i → get_elem? xs k ≡ some x → P k x) → P i a
      → (k : ℕ) (x : A) → get_elem? (set xs i a) k ≡ some x → P k x
  each P xs i a others here k x e =
      ⊎_elim
      (λ (t : (k ≡ i) × (a ≡ x)). subst (λ (z : ℕ × A). P z.0 z.1) (λ j. (sym t.0 j, t.1 j)) here)
      (λ (t : (k ≢ i) × (get_elem? xs k ≡ some x)). others k x t.0 t.1)
      (at_set xs i k a x e)

  -- where a value stood, another stands once it is set
  pub set_at : (xs : List A) (i : ℕ) (a b : A) → get_elem? xs i ≡ some a → get_elem? (set xs i b) i ≡ some b
  set_at [] i a b e = absurd (some-ne-none a (sym e))
  set_at (x ∷ xs) zero a b e = refl
  set_at (x ∷ xs) (suc i) a b e = set_at xs i a b e

  -- a place of a list with one more is one of the list, or the last
  pub at_push : (xs : List A) (a x : A) (k : ℕ) → get_elem? (xs ++ a ∷ []) k ≡ some x → (get_elem? xs k ≡ some x) ⊎ ((k ≡ length xs) × (a ≡ x))
  at_push [] a x zero e = inr (refl, some-injective a x e)
  at_push [] a x (suc k) e = absurd (some-ne-none x (sym e))
  at_push (y ∷ xs) a x zero e = inl e
  at_push (y ∷ xs) a x (suc k) e = ⊎_elim (λ h. inl h) (λ (t : (k ≡ length xs) × (a ≡ x)). inr (ap suc t.0, t.1)) (at_push xs a x k e)

  pub each_push : (P : ℕ → A → Type 0) (xs : List A) (a : A) → ((k : ℕ) (x : A) → get_elem? xs k ≡ some x → P k x) → ((k : ℕ) → P k a)
      → (k : ℕ) (x : A) → get_elem? (xs ++ a ∷ []) k ≡ some x → P k x
  each_push P xs a all here k x e = ⊎_elim (λ h. all k x h) (λ (t : (k ≡ length xs) × (a ≡ x)). subst (P k) t.1 (here k)) (at_push xs a x k e)

  pub prefix_all : (xs : List A) → IsPrefix [] xs
  prefix_all xs = (xs, refl)

  pub prefix_push : (xs ys : List A) (a : A) → IsPrefix xs ys → IsPrefix xs (ys ++ a ∷ [])
  prefix_push xs ys a p = (p.0 ++ a ∷ [], sym (append_assoc xs p.0 (a ∷ [])) ∙ ap (λ l. l ++ a ∷ []) p.1)
