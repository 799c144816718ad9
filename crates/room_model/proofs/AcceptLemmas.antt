-- What is accepted of a diff, and when that is all of it.
use Rattle.std.proofs.Common.{◌≡◌, ◌⊎◌, inl, inr, ℕ, suc, ◌≤◌, ◌==◌, Bool, true, false, ◌&&◌, cond, List, [], ◌∷◌, length, refl, sym, ap, subst, ◌∙◌, arith}
use Rattle.std.proofs.lemmas.Bool.Decides.{nat_tests}
use Rattle.rooms_val.proofs.Truths.{and_left}
use Rattle.rooms_val.specs.Data.{Pairs}
use Rattle.rooms_val.specs.Maps.{value_at, set_at}
use Rattle.field_ops.specs.RecordOps.{RecordOps}
use Rattle.field_ops.specs.Patched.{raw}
use Rattle.doc_model.specs.Documents.{acts_on, fold_raw, step}
use Rattle.room_model.specs.Schemas.{Schemas, Plan, Member}
use Rattle.room_model.specs.Accepting.{tried_op, is_accepted, accept_ops, document_part, action_of, is_empty}
use Rattle.sync_msgs.specs.declared.data_event.Action.TheVariants.{Commit, Rebase}

module _ (schemas : Schemas) where
  -- what is accepted acts
  pub accepted_acts : (m : Pairs) (id : List ℕ) (c : _) → is_accepted schemas m id c ≡ true → acts_on schemas.admits id c (value_at m id) ≡ true
  accepted_acts m id c is = and_left _ _ (and_left _ _ is)

  pub folded-accepted : (plan : Plan) (m : Pairs) (diff : RecordOps) → fold_raw m (accept_ops schemas plan m diff) ≡ step schemas.admits m (accept_ops schemas plan m diff)
  folded-accepted plan m [] = refl
  folded-accepted plan m (c ∷ diff) =
      let op = tried_op schemas plan c.1 (value_at m c.0) in
      let next = set_at m c.0 (raw op (value_at m c.0)) in
      let rest = accept_ops schemas plan next diff in
      elim (is_accepted schemas m c.0 op) as (λ b. is_accepted schemas m c.0 op ≡ b → fold_raw m (cond b ((c.0, op) ∷ rest) (accept_ops schemas plan m diff)) ≡ step schemas.admits m (cond b ((c.0, op) ∷ rest) (accept_ops schemas plan m diff))) [
        | true ↦ λ is. folded-accepted plan next diff ∙ ap (λ b. step schemas.admits (cond b next m) rest) (sym (accepted_acts m c.0 op is))
        | false ↦ λ is. folded-accepted plan m diff
      ] refl

  at_most : (plan : Plan) (m : Pairs) (diff : RecordOps) → length (accept_ops schemas plan m diff) ≤ length diff
  at_most plan m [] = omega arith
  at_most plan m (c ∷ diff) =
      let op = tried_op schemas plan c.1 (value_at m c.0) in
      let next = set_at m c.0 (raw op (value_at m c.0)) in
      elim (is_accepted schemas m c.0 op) as (λ b. length (cond b ((c.0, op) ∷ accept_ops schemas plan next diff) (accept_ops schemas plan m diff)) ≤ suc (length diff)) [
        | true ↦ let h = at_most plan next diff in omega arith
        | false ↦ let h = at_most plan m diff in omega arith
      ]

  -- at the room's schema as many operations as the diff has are the diff
  pub all_accepted : (m : Pairs) (diff : RecordOps) → length (accept_ops schemas [] m diff) ≡ length diff → accept_ops schemas [] m diff ≡ diff
  all_accepted m [] = λ same. refl
  all_accepted m (c ∷ diff) =
      let next = set_at m c.0 (raw c.1 (value_at m c.0)) in
      elim (is_accepted schemas m c.0 c.1) as (λ b. length (cond b (c ∷ accept_ops schemas [] next diff) (accept_ops schemas [] m diff)) ≡ suc (length diff) → cond b (c ∷ accept_ops schemas [] next diff) (accept_ops schemas [] m diff) ≡ c ∷ diff) [
        | true ↦ λ same. ap (λ rest. c ∷ rest) (all_accepted next diff (omega arith))
        | false ↦ λ same. let h = at_most [] m diff in absurd (omega arith)
      ]

-- a commit has the empty diff, or all of it of a session at the room's schema
commit_says : (plan : Plan) (diff part : RecordOps) → action_of plan diff part ≡ Commit → (diff ≡ []) ⊎ ((plan ≡ []) × (length part ≡ length diff))
commit_says plan [] part = λ is. inl refl
commit_says plan (c ∷ diff) [] = λ is. absurd (cc)
commit_says [] (c ∷ diff) (d ∷ part) =
    elim (length part == length diff) as (λ b. length part == length diff ≡ b → cond b Commit (Rebase (d ∷ part)) ≡ Commit → ((c ∷ diff) ≡ []) ⊎ ((◌≡◌ {A = Plan} [] []) × (suc (length part) ≡ suc (length diff)))) [
      | true ↦ λ same is. inr (refl, ap suc (grind (arith, nat_tests)))
      | false ↦ λ same is. absurd (cc)
    ] refl
commit_says (place ∷ plan) (c ∷ diff) (d ∷ part) = λ is. absurd (cc)

all_is_commit : (diff : RecordOps) → action_of [] diff diff ≡ Commit
all_is_commit [] = refl
all_is_commit (c ∷ diff) = let same : (length diff == length diff) ≡ true = grind (arith, nat_tests) in rw same refl

none_of_none : (diff : RecordOps) → 0 ≡ length diff → diff ≡ []
none_of_none [] is = refl
none_of_none (c ∷ diff) is = absurd (omega arith)

module _ (schemas : Schemas) (member : Member) (m : Pairs) (diff : RecordOps) where
  when_commit : (b : Bool) → member.readonly ≡ b → action_of member.plan diff (cond b [] (accept_ops schemas member.plan m diff)) ≡ Commit → (diff ≡ []) ⊎ ((member.readonly ≡ false) × (member.plan ≡ []) × (accept_ops schemas member.plan m diff ≡ diff))
  when_commit true ro is = elim (commit_says member.plan diff [] is) [ inl none ↦ inl none | inr p ↦ inl (none_of_none diff p.1) ]
  when_commit false ro is = elim (commit_says member.plan diff (accept_ops schemas member.plan m diff) is) [
    | inl none ↦ inl none
    | inr p ↦ inr (ro, p.0, subst (λ plan. length (accept_ops schemas plan m diff) ≡ length diff → accept_ops schemas plan m diff ≡ diff) (sym p.0) (all_accepted schemas m diff) p.1)
  ]

  pub is_commit : action_of member.plan diff (document_part schemas member m diff) ≡ Commit → (diff ≡ []) ⊎ ((member.readonly ≡ false) × (member.plan ≡ []) × (accept_ops schemas member.plan m diff ≡ diff))
  is_commit is = when_commit member.readonly refl is

  pub makes_commit : (diff ≡ []) ⊎ ((member.readonly ≡ false) × (member.plan ≡ []) × (accept_ops schemas member.plan m diff ≡ diff)) → action_of member.plan diff (document_part schemas member m diff) ≡ Commit
  makes_commit (inl none) = ap (λ d. action_of member.plan d (document_part schemas member m diff)) none
  makes_commit (inr p) =
      let part : document_part schemas member m diff ≡ diff = ap (λ b. cond b [] (accept_ops schemas member.plan m diff)) p.0 ∙ p.2 in
      ap (λ d. action_of member.plan diff d) part ∙ ap (λ plan. action_of plan diff diff) p.1 ∙ all_is_commit diff
