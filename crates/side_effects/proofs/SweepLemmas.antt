-- Sweeping links away, one after another.
use Rattle.std.proofs.Common.{◌≡◌, ℕ, suc, Bool, true, false, ◌||◌, cond, List, [], ◌∷◌, ◌++◌, length, Some, ◌⊎◌, inl, inr, refl, sym, ap, ◌∙◌, arith}
use Rattle.rooms_val.specs.Maps.{value_at, with_key, ties}
use Rattle.rooms_val.proofs.MapsLemmas.{ties_same, at-with_key, rising-with_key}
use Rattle.field_ops.specs.RecordOps.{remove, RecordOps}
use Rattle.side_effects.specs.ReachingLaws.{IsIn}
use Rattle.side_effects.specs.Removed.{removes}
use Rattle.side_effects.specs.Links.{Links, Sweeps}
use Rattle.side_effects.proofs.FilterLemmas.{ties_with}
use Rattle.side_effects.proofs.RemovesLemmas.{removed_is, removes-with_key}
use Rattle.side_effects.proofs.ReachingLemmas.{or_cases}
use Rattle.rooms_val.proofs.Truths.{or_left, or_right}

module _ {X : Type 0} where
  pub in_middle : (left : List X) (x : X) (rest : List X) → IsIn x (left ++ x ∷ rest)
  in_middle [] x rest = inl refl
  in_middle (y ∷ left) x rest = inr (in_middle left x rest)

  pub in_more : (left : List X) (x : X) (rest : List X) (l : X) → IsIn l (left ++ rest) → IsIn l (left ++ x ∷ rest)
  in_more [] x rest l is = inr is
  in_more (y ∷ left) x rest l is = elim is [
    | inl same ↦ inl same
    | inr later ↦ inr (in_more left x rest l later)
  ]

  pub in_fewer : (left : List X) (x : X) (rest : List X) (l : X) → IsIn l (left ++ x ∷ rest) → (l ≡ x) ⊎ IsIn l (left ++ rest)
  in_fewer [] x rest l is = is
  in_fewer (y ∷ left) x rest l is = elim is [
    | inl same ↦ inr (inl same)
    | inr later ↦ elim (in_fewer left x rest l later) [
      | inl here ↦ inl here
      | inr there ↦ inr (inr there)
    ]
  ]

  pub length_more : (left : List X) (x : X) (rest : List X) → length (left ++ x ∷ rest) ≡ suc (length (left ++ rest))
  length_more [] x rest = refl
  length_more (y ∷ left) x rest = ap suc (length_more left x rest)

  pub in_pushed : (left : List X) (x l : X) → IsIn l (left ++ x ∷ []) → IsIn l left ⊎ (l ≡ x)
  in_pushed [] x l is = elim is [
    | inl same ↦ inr same
    | inr none ↦ absurd none
  ]
  in_pushed (y ∷ left) x l is = elim is [
    | inl same ↦ inl (inl same)
    | inr later ↦ elim (in_pushed left x l later) [
      | inl there ↦ inl (inr there)
      | inr here ↦ inr here
    ]
  ]

either_kept : (diff : RecordOps) (q : List ℕ) → value_at diff q ≡ cond (removes diff q) (Some remove) (value_at diff q)
either_kept diff q = elim (removes diff q) as (λ b. removes diff q ≡ b → value_at diff q ≡ cond b (Some remove) (value_at diff q)) [
  | true ↦ λ is. removed_is diff q is
  | false ↦ λ is. refl
] refl

pub sweeps_none : (all : Links) (diff : RecordOps) → Sweeps all diff all diff
sweeps_none all diff = record {
  least = λ in_set starts below q is. starts q is;
  starts = λ q is. is;
  keeps = either_kept diff;
  rising = λ rising. rising;
  done = λ l is. inl is;
  part = λ l is. is;
  fewer = omega arith;
}

kept_either : {A : Type 0} (a b : Bool) (gone was : A) → cond a gone (cond b gone was) ≡ cond (a || b) gone was
kept_either true b gone was = refl
kept_either false b gone was = refl

-- the id of a link that leads to what is removed is removed
pub sweeps_hit : (all : Links) (old new : RecordOps) (left : Links) (x : List ℕ × List ℕ) (rest : Links) → Sweeps all old (left ++ x ∷ rest) new → removes new x.1 ≡ true
    → Sweeps all old (left ++ rest) (with_key new x.0 remove)
sweeps_hit all old new left x rest s hit =
    record {
      least = λ in_set starts below q is. elim (or_cases (ties q x.0) (removes new q) (sym (removes-with_key new x.0 q) ∙ is)) [
        | inl tied ↦ ap in_set (ties_same q x.0 tied) ∙ below x (s.part x (in_middle left x rest)) (s.least in_set starts below x.1 hit)
        | inr was ↦ s.least in_set starts below q was
      ];
      starts = λ q is. removes-with_key new x.0 q ∙ or_right (ties q x.0) (removes new q) (s.starts q is);
      keeps = λ q.
          at-with_key new x.0 q remove
          ∙ ap (cond (ties q x.0) (Some remove)) (s.keeps q)
          ∙ kept_either (ties q x.0) (removes new q) (Some remove) (value_at old q)
          ∙ sym (ap (λ b. cond b (Some remove) (value_at old q)) (removes-with_key new x.0 q));
      rising = λ rising. rising-with_key new x.0 remove (s.rising rising);
      done = λ l is. elim (s.done l is) [
        | inl there ↦ elim (in_fewer left x rest l there) [
          | inl same ↦ inr (removes-with_key new x.0 l.0 ∙ or_left (ties l.0 x.0) (removes new l.0) (ties_with l.0 x.0 (ap (λ e. e.0) same)))
          | inr later ↦ inl later
        ]
        | inr gone ↦ inr (removes-with_key new x.0 l.0 ∙ or_right (ties l.0 x.0) (removes new l.0) gone)
      ];
      part = λ l is. s.part l (in_more left x rest l is);
      fewer = let most = s.fewer in let more = length_more left x rest in omega arith;
    }
