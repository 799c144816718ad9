-- Watches that come and go.
use Rattle.std.proofs.Common.{◌≡◌, ◌≢◌, ℕ, zero, suc, ◌<◌, ◌≤◌, inl, inr, List, [], ◌∷◌, ◌++◌, length, get_or, Option, Some, None, refl, sym, ◌∙◌, ap, subst, arith, get_or-set_other, get_or-set_same}
use Rattle.std.specs.Prelude.{IsSome, slice_set}
use Rattle.std.proofs.lemmas.Bool.{cases_lt}
use Rattle.signal_core.specs.declared.watch.Watch.{Watch}
use Rattle.signal_core.specs.Watches.{IsWatched, DropsWatch}

-- nothing is watched past the end
pub past : {X : Type 0} (xs : List (Option X)) (i : ℕ) → length xs ≤ i → get_or xs i None ≡ None
past [] i far = refl
past (x ∷ xs) zero far = absurd (omega (arith, far))
past (x ∷ xs) (suc i) far = past xs i (omega (arith, far))

-- a number that is watched is below the end
pub within : {X : Type 0} (xs : List (Option X)) (i : ℕ) → IsSome (get_or xs i None) → i < length xs
within {X} xs i is = elim (cases_lt i (length xs)) [
  | inl low ↦ low
  | inr far ↦ absurd (no (get_or xs i None) (past xs i far) is)
]
  where
    no : (o : Option X) → o ≡ None → IsSome o → ⊥
    no None e is = absurd (cc)
    no (Some x) e is = absurd (cc)

pub drops : {K V : Type 0} (watches old : List (Option (Watch K V))) (number : ℕ) → watches ≡ old → IsWatched old number → DropsWatch old (slice_set watches number None) number
drops {K} {V} watches old number e is = record {
  here = get_or-set_same watches number None None (within watches number (subst (λ (ws : List (Option (Watch K V))). IsSome (get_or ws number None)) (sym e) is));
  others = λ other ne. get_or-set_other watches number other None None ne ∙ ap (λ (ws : List (Option (Watch K V))). get_or ws other None) e;
}

pub get_append : {X : Type 0} (xs : List (Option X)) (x : Option X) (i : ℕ) → i ≢ length xs → get_or (xs ++ x ∷ []) i None ≡ get_or xs i None
get_append [] x zero ne = absurd (ne refl)
get_append [] x (suc i) ne = refl
get_append (y ∷ xs) x zero ne = refl
get_append (y ∷ xs) x (suc i) ne = get_append xs x i (λ e. ne (omega (arith, e)))

pub get_seam : {X : Type 0} (xs : List X) (x d : X) → get_or (xs ++ x ∷ []) (length xs) d ≡ x
get_seam [] x d = refl
get_seam (y ∷ xs) x d = get_seam xs x d
