-- Maps cut down by a test of their entries, and the ids that they have.
use Rattle.std.proofs.Common.{◌≡◌, ℕ, Bool, true, false, ◌&&◌, ◌||◌, cond, T, List, [], ◌∷◌, Option, Some, None, inl, inr, refl, sym, ap, ◌∙◌}
use Rattle.std.specs.Prelude.{is_some, filter}
use Rattle.std.specs.List.{list_any}
use Rattle.std.specs.Option.{option_and_then}
use Rattle.std.specs.Ordering.{is_eq}
use Rattle.std.specs.FinMap.Entries.{below_all}
use Rattle.rooms_val.specs.Maps.{value_at, order, ties, keys_of, AreRising}
use Rattle.rooms_val.proofs.MapsLemmas.{first, second, by_tie, order_itself, none_later}
use Rattle.rooms_val.proofs.Truths.{and_holds}
use Rattle.side_effects.specs.ReachingLaws.{IsIn}

module _ {V : Type 0} (test : List ℕ × V → Bool) where
  below-filter : (low : List ℕ) (es : List (List ℕ × V)) → T (below_all order low es) → T (below_all order low (filter test es))
  below-filter low [] below = tt
  below-filter low (e ∷ es) below = elim (test e) as (λ b. T (below_all order low (cond b (e ∷ filter test es) (filter test es)))) [
    | true ↦ and_holds _ _ (first _ _ below) (below-filter low es (second _ _ below))
    | false ↦ below-filter low es (second _ _ below)
  ]

  pub rising-filter : (es : List (List ℕ × V)) → AreRising es → AreRising (filter test es)
  rising-filter [] rising = tt
  rising-filter (e ∷ es) rising = elim (test e) as (λ b. AreRising (cond b (e ∷ filter test es) (filter test es))) [
    | true ↦ and_holds _ _ (below-filter e.0 es (first _ _ rising)) (rising-filter es (second _ _ rising))
    | false ↦ rising-filter es (second _ _ rising)
  ]

  abbrev pub kept_at : List ℕ → Option V → Option V
  kept_at q o = option_and_then (λ v. cond (test (q, v)) (Some v) None) o

  pub at-filter : (es : List (List ℕ × V)) (q : List ℕ) → AreRising es → value_at (filter test es) q ≡ kept_at q (value_at es q)
  at-filter [] q rising = refl
  at-filter (e ∷ es) q rising = elim (test e) as (λ b. test e ≡ b → value_at (cond b (e ∷ filter test es) (filter test es)) q ≡ kept_at q (cond (ties q e.0) (Some e.1) (value_at es q))) [
    | true ↦ λ is. by_tie (λ t. cond t (Some e.1) (value_at (filter test es) q) ≡ kept_at q (cond t (Some e.1) (value_at es q))) q e.0
        (λ same. sym (ap (λ b. cond b (Some e.1) None) (ap (λ id. test (id, e.1)) same ∙ is)))
        (at-filter es q (second _ _ rising))
    | false ↦ λ is. at-filter es q (second _ _ rising) ∙ by_tie (λ t. kept_at q (value_at es q) ≡ kept_at q (cond t (Some e.1) (value_at es q))) q e.0
        (λ same. ap (kept_at q) (ap (value_at es) same ∙ none_later e es rising) ∙ sym (ap (λ b. cond b (Some e.1) None) (ap (λ id. test (id, e.1)) same ∙ is)))
        refl
  ] refl

pub ties_with : (q k : List ℕ) → q ≡ k → ties q k ≡ true
ties_with q k same = ap (λ x. ties x k) same ∙ ap is_eq (order_itself k)

module _ {V : Type 0} where
  pub is_in-keys : (es : List (List ℕ × V)) (q : List ℕ) → is_some (value_at es q) ≡ true → IsIn q (keys_of es)
  is_in-keys [] q is = absurd (let no : false ≡ true = is in (cc))
  is_in-keys (e ∷ es) q is = by_tie (λ t. is_some (cond t (Some e.1) (value_at es q)) ≡ true → IsIn q (keys_of (e ∷ es))) q e.0 (λ same _. inl same) (λ later. inr (is_in-keys es q later)) is

  pub keys-is_in : (es : List (List ℕ × V)) (q : List ℕ) → IsIn q (keys_of es) → is_some (value_at es q) ≡ true
  keys-is_in [] q is = absurd is
  keys-is_in (e ∷ es) q is = elim is [
    | inl same ↦ ap (λ t. is_some (cond t (Some e.1) (value_at es q))) (ties_with q e.0 same)
    | inr later ↦ elim (ties q e.0) as (λ t. is_some (cond t (Some e.1) (value_at es q)) ≡ true) [
      | true ↦ refl
      | false ↦ keys-is_in es q later
    ]
  ]

  -- an id is among those of a map that pass
  pub any-kept : (p : List ℕ → Bool) (es : List (List ℕ × V)) (q : List ℕ) → list_any (ties q) (filter p (keys_of es)) ≡ (p q && is_some (value_at es q))
  any-kept p [] q = elim (p q) as (λ b. false ≡ (b && false)) [ true ↦ refl | false ↦ refl ]
  any-kept p (e ∷ es) q =
      elim (p e.0) as (λ b. p e.0 ≡ b → list_any (ties q) (cond b (e.0 ∷ filter p (keys_of es)) (filter p (keys_of es))) ≡ (p q && is_some (cond (ties q e.0) (Some e.1) (value_at es q)))) [
        | true ↦ λ is. by_tie (λ t. (t || list_any (ties q) (filter p (keys_of es))) ≡ (p q && is_some (cond t (Some e.1) (value_at es q)))) q e.0
            (λ same. sym (ap (λ b. b && true) (ap p same ∙ is)))
            (any-kept p es q)
        | false ↦ λ is. any-kept p es q ∙ by_tie (λ t. (p q && is_some (value_at es q)) ≡ (p q && is_some (cond t (Some e.1) (value_at es q)))) q e.0
            (λ same. let no : p q ≡ false = ap p same ∙ is in ap (λ b. b && is_some (value_at es q)) no ∙ sym (ap (λ b. b && true) no))
            refl
      ] refl
