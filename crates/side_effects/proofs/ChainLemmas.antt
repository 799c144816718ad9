-- Chains of parents, followed step by step.
use Rattle.std.proofs.Common.{◌≡◌, ℕ, suc, ◌+◌, ◌-◌, ◌<◌, ◌≤◌, Bool, true, false, ◌||◌, cond, List, [], ◌∷◌, length, Option, Some, None, ◌⊎◌, inl, inr, Less, Equal, Greater, refl, sym, ap, subst, ◌∙◌, arith}
use Rattle.std.specs.Prelude.{option_to_list, option_map, is_some, bytes_eq}
use Rattle.std.specs.List.{list_any}
use Rattle.std.proofs.lemmas.Bool.{cases_lt}
use Rattle.std.proofs.lemmas.List.{length-map}
use Rattle.rooms_val.specs.Data.{Data, Pairs}
use Rattle.rooms_val.specs.Maps.{value_at, keys_of, with_key, without_key, set_at, order}
use Rattle.std.specs.Prelude.{not}
use Rattle.std.specs.FinMap.Entries.{by_order}
use Rattle.rooms_val.specs.Maps.{ties}
use Rattle.field_ops.specs.Patched.{raw}
use Rattle.field_ops.specs.RecordOps.{RecordOps}
use Rattle.doc_model.specs.Documents.{fold_raw}
use Rattle.side_effects.specs.ReachingLaws.{IsIn, AreAll}
use Rattle.side_effects.specs.Reaching.{reaches}
use Rattle.side_effects.proofs.ReachingLemmas.{enough, climb, raised, raised_is, any_imp, or_false as or_none}
use Rattle.rooms_val.proofs.Truths.{or_left}
use Rattle.shape_tree.specs.Records.{is_shape}
use Rattle.side_effects.specs.Records.{parent_of}
use Rattle.side_effects.specs.Whole.{parent_at, parents, meets_within, meets_itself}
use Rattle.side_effects.proofs.FilterLemmas.{is_in-keys}

module _ (m : Pairs) (id : List ℕ) where
  abbrev is_id : List ℕ → Bool
  is_id above = bytes_eq above id

  abbrev on_chain : ℕ → List ℕ → Bool
  on_chain = reaches (parents m) is_id

  -- only shapes of the map have a parent
  all_parents : AreAll (parents m) is_id (keys_of m)
  all_parents q = elim (is_shape q) as (λ b. IsIn q (keys_of m) ⊎ (option_to_list (option_map parent_of (cond b (value_at m q) None)) ≡ [])) [
    | true ↦ elim (value_at m q) as (λ o. value_at m q ≡ o → IsIn q (keys_of m) ⊎ (option_to_list (option_map parent_of o) ≡ [])) [
      | None ↦ λ _. inr refl
      | Some d ↦ λ is. inl (is_in-keys m q (ap is_some is))
    ] refl
    | false ↦ inr refl
  ]

  met_by : (n : ℕ) (q : List ℕ) → on_chain n q ≡ true → on_chain (length m) q ≡ true
  met_by n q is = subst (λ k. on_chain k q ≡ true) (length-map m (λ e. e.0)) (enough (parents m) is_id (keys_of m) all_parents n q is)

  pub met_anywhere : (n : ℕ) → meets_within n m id ≡ true → meets_itself m id ≡ true
  met_anywhere n is = any_imp (on_chain n) (on_chain (length m)) (met_by n) (parents m id) is

  -- more steps meet no less
  pub met_further : (n k : ℕ) → n ≤ k → meets_within n m id ≡ true → meets_within k m id ≡ true
  met_further n k low is =
      subst (λ j. meets_within j m id ≡ true) (raised_is (k - n) n ∙ (omega arith))
      (any_imp (on_chain n) (on_chain (raised (k - n) n)) (climb (parents m) is_id (k - n) n) (parents m id) is)

  abbrev pub chain_from : ℕ → Option (List ℕ) → Bool
  chain_from n next = list_any (on_chain n) (option_to_list next)

  -- so many steps up no parent was the id, and the rest of the chain begins here
  pub record IsOnWay (steps : ℕ) (next : Option (List ℕ)) : Type 0 where
    pub rest : (n : ℕ) → meets_within (steps + n) m id ≡ chain_from n next
    pub none : (n : ℕ) → n < steps → meets_within n m id ≡ false

  pub at_start : IsOnWay 0 (parent_at m id)
  at_start = record {
    rest = λ n. ap (λ k. meets_within k m id) (let same : 0 + n ≡ n = omega arith in same);
    none = λ n never. absurd (omega arith);
  }

  pub one_up : (steps : ℕ) (above : List ℕ) → IsOnWay steps (Some above) → bytes_eq above id ≡ false → IsOnWay (steps + 1) (parent_at m above)
  unfolding reaches
  one_up steps above is apart = record {
    rest = λ n.
        ap (λ k. meets_within k m id) (let same : (steps + 1) + n ≡ steps + suc n = omega arith in same)
        ∙ is.rest (suc n)
        ∙ or_none (on_chain (suc n) above)
        ∙ ap (λ b. b || list_any (on_chain n) (parents m above)) apart;
    none = λ n low. elim (cases_lt n steps) [
      | inl before ↦ is.none n before
      | inr here ↦
          ap (λ k. meets_within k m id) (let same : n ≡ steps + 0 = omega arith in same)
          ∙ is.rest 0
          ∙ or_none (on_chain 0 above)
          ∙ apart
    ];
  }

  pub met_now : (steps : ℕ) (above : List ℕ) → IsOnWay steps (Some above) → bytes_eq above id ≡ true → true ≡ meets_itself m id
  unfolding reaches
  met_now steps above is same = sym (met_anywhere (steps + 0) (is.rest 0 ∙ or_left (on_chain 0 above) false same))

  pub ended_now : (steps : ℕ) → IsOnWay steps None → false ≡ meets_itself m id
  ended_now steps is = elim (meets_itself m id) as (λ b. meets_itself m id ≡ b → false ≡ b) [
    | true ↦ λ met. let no : true ≡ false = sym (met_further (length m) (steps + length m) (omega arith) met) ∙ is.rest (length m) in cc
    | false ↦ λ _. refl
  ] refl

  -- a chain that is longer than there are records never meets the id
  pub never_met : (steps : ℕ) → length m < steps → ((n : ℕ) → n < steps → meets_within n m id ≡ false) → false ≡ meets_itself m id
  never_met steps long none = sym (none (length m) long)

length-with_key : (m : Pairs) (k : List ℕ) (d : Data) → length (with_key m k d) ≤ suc (length m)
length-with_key [] k d = omega arith
length-with_key (e ∷ es) k d = let below = length-with_key es k d in elim (order k e.0) as (λ o. length (by_order o ((k, d) ∷ e ∷ es) ((e.0, d) ∷ es) (e ∷ with_key es k d)) ≤ suc (suc (length es))) [
  | Less ↦ omega arith
  | Equal ↦ omega arith
  | Greater ↦ omega arith
]

length-without_key : (m : Pairs) (k : List ℕ) → length (without_key m k) ≤ length m
length-without_key [] k = omega arith
length-without_key (e ∷ es) k = let below = length-without_key es k in elim (not (ties k e.0)) as (λ b. length (cond b (e ∷ without_key es k) (without_key es k)) ≤ suc (length es)) [
  | true ↦ omega arith
  | false ↦ omega arith
]

length-set_at : (m : Pairs) (k : List ℕ) (o : Option Data) → length (set_at m k o) ≤ suc (length m)
length-set_at m k None = let below = length-without_key m k in omega arith
length-set_at m k (Some d) = length-with_key m k d

pub length-fold_raw : (diff : RecordOps) (m : Pairs) → length (fold_raw m diff) ≤ length m + length diff
length-fold_raw [] m = omega arith
length-fold_raw (c ∷ diff) m =
    let next = set_at m c.0 (raw c.1 (value_at m c.0)) in
    let one = length-set_at m c.0 (raw c.1 (value_at m c.0)) in
    let later = length-fold_raw diff next in omega arith
