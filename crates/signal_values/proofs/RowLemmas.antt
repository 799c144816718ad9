-- Lists by number after one is added, gets one more number, or loses one.
use Rattle.std.proofs.Common.{◌≡◌, ℕ, zero, suc, ◌<◌, ◌⊎◌, inl, inr, List, [], ◌∷◌, ◌++◌, length, set, map, Contains, refl, sym, ◌∙◌, ap, subst, arith, Bool, true, false, not, cond, eqb}
use Rattle.std.proofs.lemmas.List.{length-map, get_or-map, get_or_past}
use Rattle.std.proofs.lemmas.Bool.{cases_lt}
use Rattle.links_core.specs.Lists.{list_at, without}
use Rattle.links_core.proofs.Members.{here, there, none_in_nil, contains_cases, in_left, in_right, in_either, without-contains, without-itself}

-- a list more changes none
pub grown : (lists : List (List ℕ)) (n : ℕ) → list_at (lists ++ [] ∷ []) n ≡ list_at lists n
grown [] zero = refl
grown [] (suc n) = refl
grown (ws ∷ lists) zero = refl
grown (ws ∷ lists) (suc n) = grown lists n

-- a list with one more number has what it had, and that number
pub push_cases : (lists : List (List ℕ)) (n e k x : ℕ) → Contains (list_at (set lists n (list_at lists n ++ e ∷ [])) k) x → Contains (list_at lists k) x ⊎ ((k ≡ n) × (x ≡ e))
push_cases [] n e k x p = absurd (none_in_nil x p)
push_cases (ws ∷ lists) zero e zero x p =
    elim (in_either x ws (e ∷ []) p) [
      | inl was ↦ inl was
      | inr last ↦ elim (contains_cases x e [] last) [ inl same ↦ inr (refl, sym same) | inr none ↦ absurd (none_in_nil x none) ]
    ]
push_cases (ws ∷ lists) zero e (suc k) x p = inl p
push_cases (ws ∷ lists) (suc n) e zero x p = inl p
push_cases (ws ∷ lists) (suc n) e (suc k) x p =
    elim (push_cases lists n e k x p) [ inl was ↦ inl was | inr last ↦ inr (ap suc last.0, last.1) ]

pub push_has : (lists : List (List ℕ)) (n e : ℕ) → n < length lists → Contains (list_at (set lists n (list_at lists n ++ e ∷ [])) n) e
push_has [] n e low = absurd (omega arith)
push_has (ws ∷ lists) zero e low = in_right e ws (e ∷ []) (here e [])
push_has (ws ∷ lists) (suc n) e low = push_has lists n e (omega arith)

pub push_keeps : (lists : List (List ℕ)) (n e k x : ℕ) → Contains (list_at lists k) x → Contains (list_at (set lists n (list_at lists n ++ e ∷ [])) k) x
push_keeps [] n e k x p = absurd (none_in_nil x p)
push_keeps (ws ∷ lists) zero e zero x p = in_left x ws (e ∷ []) p
push_keeps (ws ∷ lists) zero e (suc k) x p = p
push_keeps (ws ∷ lists) (suc n) e zero x p = p
push_keeps (ws ∷ lists) (suc n) e (suc k) x p = push_keeps lists n e k x p

-- one list of those without a node
pub at_without : (edge : ℕ) (lists : List (List ℕ)) (n : ℕ) → list_at (map (without edge) lists) n ≡ without edge (list_at lists n)
at_without edge lists n =
    elim (cases_lt n (length lists)) [
      | inl below ↦ get_or-map (without edge) lists n [] [] below
      | inr above ↦ get_or_past (map (without edge) lists) n [] (omega (arith, length-map lists (without edge))) ∙ ap (without edge) (sym (get_or_past lists n [] above))
    ]

-- what is in a list without a number is in the list
pub without-from : (x y : ℕ) (xs : List ℕ) → Contains (without x xs) y → Contains xs y
without-from x y [] p = p
without-from x y (z ∷ xs) p = at (without-from x y xs) (eqb z x) p
  where
    at : (Contains (without x xs) y → Contains xs y) → (b : Bool) → Contains (cond (not b) (z ∷ without x xs) (without x xs)) y → Contains (z ∷ xs) y
    at deeper true q = there y z xs (deeper q)
    at deeper false q =
        elim (contains_cases y z (without x xs) q) [
          | inl same ↦ subst (λ (w : ℕ). Contains (z ∷ xs) w) same (here z xs)
          | inr rest ↦ there y z xs (deeper rest)
        ]

pub in_without : (edge : ℕ) (lists : List (List ℕ)) (n x : ℕ) → Contains (list_at (map (without edge) lists) n) x → (x ≡ edge → ⊥) × Contains (list_at lists n) x
in_without edge lists n x p =
    let q : Contains (without edge (list_at lists n)) x = subst (λ (ws : List ℕ). Contains ws x) (at_without edge lists n) p in
    (λ e. without-itself edge (list_at lists n) (subst (λ (w : ℕ). Contains (without edge (list_at lists n)) w) e q), without-from edge x (list_at lists n) q)

pub to_without : (edge : ℕ) (lists : List (List ℕ)) (n x : ℕ) → (x ≡ edge → ⊥) → Contains (list_at lists n) x → Contains (list_at (map (without edge) lists) n) x
to_without edge lists n x ne p =
    subst (λ (ws : List ℕ). Contains ws x) (sym (at_without edge lists n)) (without-contains edge x (list_at lists n) ne p)
