-- Runs that ask for keys of one kind alone, and for no more than so many.
use Rattle.std.proofs.Common.{◌≡◌, ℕ, zero, suc, ◌+◌, ◌≤◌, List, [], ◌∷◌, length, refl, sym, subst, arith}
use Rattle.signal_rules.specs.declared.rules.Ask.{Ask}
use Rattle.signal_rules.specs.declared.rules.Ask.TheVariants.{Need, Done}
use Rattle.signal_rules.specs.Meaning.{IsDone}
use Rattle.tl_rules.specs.Plans.{Plan, ends, asks, asked, chain, values_of}

pub not_both : {K V : Type 0} {a : Ask K V} {key : K} {v : V} → a ≡ Need key → a ≡ Done v → ⊥
not_both p q = cc

same_need : {K V : Type 0} {a : Ask K V} {key other : K} → a ≡ Need key → a ≡ Need other → key ≡ other
same_need p q = cc

module _ {K V : Type 0} (IsLow : K → Type 0) where
  -- each key that a run asks for is low, it asks for at most so many, and it ends with something of which Q holds, where as
  -- many asks are left
  abbrev pub Keeps : {A : Type 0} → ℕ → (ℕ → A → Type 0) → Plan K V A → Type 0
  Keeps left Q (ends a) = Q left a
  Keeps zero Q (asks key go) = ⊥
  Keeps (suc left) Q (asks key go) = IsLow key × ((v : V) → Keeps left Q (go v))

  pub keeps-chain : {A B : Type 0} (left : ℕ) (Q : ℕ → B → Type 0) (plan : Plan K V A) (next : A → Plan K V B)
      → Keeps left (λ n a. Keeps n Q (next a)) plan → Keeps left Q (chain plan next)
  keeps-chain left Q (ends a) next keeps = keeps
  keeps-chain zero Q (asks key go) next keeps = absurd keeps
  keeps-chain (suc left) Q (asks key go) next keeps = (keeps.0, λ v. keeps-chain left Q (go v) next (keeps.1 v))

  -- the values of low keys, in order, leave as many asks as there are keys fewer
  pub keeps-values : {X : Type 0} (key_of : X → K) → ((x : X) → IsLow (key_of x)) → (xs : List X) (left n : ℕ) (Q : ℕ → List V → Type 0)
      → length xs + n ≡ left → ((vs : List V) → Q n vs) → Keeps left Q (values_of key_of xs)
  keeps-values key_of low [] left n Q count q =
      let same : n ≡ left = omega arith in subst (λ (k : ℕ). Q k []) same (q [])
  keeps-values key_of low (x ∷ xs) zero n Q count q = absurd (omega arith)
  keeps-values key_of low (x ∷ xs) (suc left) n Q count q = (
    low x,
    λ v. keeps-chain left Q (values_of key_of xs) (λ vs. ends (v ∷ vs))
        (keeps-values key_of low xs left n (λ k vs. Q k (v ∷ vs)) (omega arith) (λ vs. q (v ∷ vs))),
  )

  -- such a run needs low keys alone
  pub low_need : (left : ℕ) (Q : ℕ → V → Type 0) (plan : Plan K V V) (got : List V) (next : K) → Keeps left Q plan → asked plan got ≡ Need next → IsLow next
  low_need left Q (ends v) got next keeps is = absurd (not_both is refl)
  low_need zero Q (asks key go) got next keeps is = absurd keeps
  low_need (suc left) Q (asks key go) [] next keeps is = subst IsLow (sym (same_need is refl)) keeps.0
  low_need (suc left) Q (asks key go) (v ∷ got) next keeps is = low_need left Q (go v) got next (keeps.1 v) is

  -- it has ended once it has so many answers
  pub done_after : (left : ℕ) (Q : ℕ → V → Type 0) (plan : Plan K V V) (got : List V) → Keeps left Q plan → left ≤ length got → IsDone (asked plan got)
  done_after left Q (ends v) got keeps far = tt
  done_after zero Q (asks key go) got keeps far = absurd keeps
  done_after (suc left) Q (asks key go) [] keeps far = absurd (omega arith)
  done_after (suc left) Q (asks key go) (v ∷ got) keeps far = done_after left Q (go v) got (keeps.1 v) (omega arith)
