-- Filters by tests that agree, one after another, or of what none passes.
use Rattle.std.proofs.Common.{append_assoc, map, ◌++◌, sym, ◌≡◌, Bool, true, false, ◌&&◌, not, cond, List, [], ◌∷◌, filter, refl, ap, ◌∙◌}

pub and_true : (b : Bool) → b && true ≡ b
and_true true = refl
and_true false = refl

module _ {X : Type 0} where
  -- two tests that agree
  pub filter-same : (p q : X → Bool) → ((x : X) → p x ≡ q x) → (xs : List X) → filter p xs ≡ filter q xs
  filter-same p q same xs = λ i. filter (λ x. same x i) xs

  -- a filter after another
  pub filter-both : (p q : X → Bool) (xs : List X) → filter p (filter q xs) ≡ filter (λ x. p x && q x) xs
  filter-both p q [] = refl
  filter-both p q (x ∷ xs) =
      elim (q x) as (λ b. filter p (cond b (x ∷ filter q xs) (filter q xs)) ≡ cond (p x && b) (x ∷ filter (λ x. p x && q x) xs) (filter (λ x. p x && q x) xs)) [
        | true ↦ elim (p x) as (λ a. cond a (x ∷ filter p (filter q xs)) (filter p (filter q xs)) ≡ cond (a && true) (x ∷ filter (λ x. p x && q x) xs) (filter (λ x. p x && q x) xs)) [
          | true ↦ ap (λ rest. x ∷ rest) (filter-both p q xs)
          | false ↦ filter-both p q xs
        ]
        | false ↦ elim (p x) as (λ a. filter p (filter q xs) ≡ cond (a && false) (x ∷ filter (λ x. p x && q x) xs) (filter (λ x. p x && q x) xs)) [
          | true ↦ filter-both p q xs
          | false ↦ filter-both p q xs
        ]
      ]

-- what is made of the first that passes a test comes to what was made before
pub made_further : {X Y : Type 0} (make : X → Y) (test : X → Bool) (made whole : List Y) (all rest : List X) (x : X) → all ≡ x ∷ rest → test x ≡ true
    → made ++ map make (filter test all) ≡ whole → (made ++ make x ∷ []) ++ map make (filter test rest) ≡ whole
made_further make test made whole all rest x parts passes is =
    append_assoc made (make x ∷ []) (map make (filter test rest))
    ∙ ap (λ b. made ++ map make (cond b (x ∷ filter test rest) (filter test rest))) (sym passes)
    ∙ ap (λ xs. made ++ map make (filter test xs)) (sym parts)
    ∙ is
