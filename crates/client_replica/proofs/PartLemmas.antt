-- What a step does to a part of a base.
use Rattle.std.proofs.Common.{◌≡◌, ℕ, List, [], ◌∷◌, Bool, true, false, cond, Option, Some, None, option_map, refl, sym, ap, ◌∙◌}
use Rattle.std.specs.Prelude.{filter}
use Rattle.rooms_val.specs.Data.{Data, Pairs}
use Rattle.rooms_val.specs.Maps.{AreRising, value_at, set_at, ties}
use Rattle.field_ops.specs.RecordOps.{RecordOpTree, RecordOps}
use Rattle.rooms_val.proofs.MapsLemmas.{by_tie, same_pairs}
use Rattle.std.specs.Prelude.{unwrap_or}
use Rattle.rooms_val.specs.declared.val.Val.{Val}
use Rattle.field_ops.specs.View.{maybe_data}
use Rattle.field_ops.specs.Patched.{raw}
use Rattle.doc_model.specs.Documents.{acts_on, left_on, step_at, step, replay}
use Rattle.doc_model.specs.Inverses.{record_after}
use Rattle.doc_model.proofs.InverseLemmas.{at-step_at, rising-step}
use Rattle.room_model.specs.Schemas.{records_with}
use Rattle.room_model.proofs.LookUpLemmas.{at-filter, rising-filter}
use Rattle.client_replica.specs.Parts.{ops_with}

module _ (admits : List ℕ → Data → Bool) where
  rising-step_at : (m : Pairs) (k : List ℕ) (c : RecordOpTree) → AreRising m → AreRising (step_at admits m k c)
  rising-step_at m k c rising = rising-step admits ((k, c) ∷ []) m rising

  -- an operation on an id of the part is done in the part, and another leaves the part as it is
  part-step_at : (test : List ℕ → Bool) (m : Pairs) (k : List ℕ) (c : RecordOpTree) → AreRising m
      → records_with test (step_at admits m k c) ≡ cond (test k) (step_at admits (records_with test m) k c) (records_with test m)
  part-step_at test m k c rising =
      let part = records_with test m in
      let rises : AreRising part = rising-filter test m rising in
      let left : AreRising (records_with test (step_at admits m k c)) = rising-filter test (step_at admits m k c) (rising-step_at m k c rising) in
      let here : (q : List ℕ) → value_at (records_with test (step_at admits m k c)) q ≡ cond (test q) (cond (ties q k) (record_after admits k (Some c) (value_at m k)) (value_at m q)) None
      = λ q. at-filter test (step_at admits m k c) q ∙ ap (λ o. cond (test q) o None) (at-step_at admits m k q c) in
      elim (test k) as (λ b. test k ≡ b → records_with test (step_at admits m k c) ≡ cond b (step_at admits part k c) part) [
        | true ↦ λ is. same_pairs _ (step_at admits part k c) left (rising-step_at part k c rises) (λ q.
            here q
            ∙ by_tie (λ t. cond (test q) (cond t (record_after admits k (Some c) (value_at m k)) (value_at m q)) None ≡ cond t (record_after admits k (Some c) (value_at part k)) (value_at part q)) q k
            (λ same. ap (λ x. cond (test x) (record_after admits k (Some c) (value_at m k)) None) same ∙ ap (λ b. cond b (record_after admits k (Some c) (value_at m k)) None) is
            ∙ ap (record_after admits k (Some c)) (sym (at-filter test m k ∙ ap (λ b. cond b (value_at m k) None) is)))
            (sym (at-filter test m q))
            ∙ sym (at-step_at admits part k q c))
        | false ↦ λ is. same_pairs _ part left rises (λ q.
            here q
            ∙ by_tie (λ t. cond (test q) (cond t (record_after admits k (Some c) (value_at m k)) (value_at m q)) None ≡ cond (test q) (value_at m q) None) q k
            (λ same.
            ap (λ x. cond (test x) (record_after admits k (Some c) (value_at m k)) None) same ∙ ap (λ b. cond b (record_after admits k (Some c) (value_at m k)) None) is
            ∙ sym (ap (λ x. cond (test x) (value_at m x) None) same ∙ ap (λ b. cond b (value_at m k) None) is)) refl
            ∙ sym (at-filter test m q))
      ] refl

  step_if : (b : Bool) (m : Pairs) (k : List ℕ) (c : RecordOpTree) (diff : RecordOps) → step admits (cond b (step_at admits m k c) m) diff ≡ step admits m (cond b ((k, c) ∷ diff) diff)
  step_if true m k c diff = refl
  step_if false m k c diff = refl

  -- a part after a step: the diff's operations on ids of the part are done to the part
  pub part-step : (test : List ℕ → Bool) (m : Pairs) (diff : RecordOps) → AreRising m → records_with test (step admits m diff) ≡ step admits (records_with test m) (ops_with test diff)
  part-step test m [] rising = refl
  part-step test m (c ∷ diff) rising =
      part-step test (step_at admits m c.0 c.1) diff (rising-step_at m c.0 c.1 rising)
      ∙ ap (λ part. step admits part (ops_with test diff)) (part-step_at test m c.0 c.1 rising)
      ∙ step_if (test c.0) (records_with test m) c.0 c.1 (ops_with test diff)

  -- the first operation is done first
  pub step-first : (test : List ℕ → Bool) (m : Pairs) (c : List ℕ × RecordOpTree) (diff : RecordOps)
      → step admits m (ops_with test (c ∷ diff)) ≡ step admits (step admits m (ops_with test (c ∷ []))) (ops_with test diff)
  step-first test m c diff =
      elim (test c.0) as (λ b. step admits m (cond b (c ∷ ops_with test diff) (ops_with test diff)) ≡ step admits (step admits m (cond b (c ∷ []) [])) (ops_with test diff)) [ true ↦ refl | false ↦ refl ]

  -- what an operation leaves under an id is written there
  stepped_at : (m : Pairs) (id : List ℕ) (c : RecordOpTree) (left : Option Data) (b : Bool) → acts_on admits id c (value_at m id) ≡ b → Some left ≡ cond b (Some (raw c (value_at m id))) None → set_at m id left ≡ step_at admits m id c
  stepped_at m id c left true acts is = ap (λ o. set_at m id (unwrap_or o None)) is ∙ sym (ap (λ b. cond b (set_at m id (raw c (value_at m id))) m) acts)
  stepped_at m id c left false acts is = absurd cc

  pub stepped : (m after : Pairs) (id q r w : List ℕ) (c : RecordOpTree) (left : Option (Option Val)) (written : Option Val) (before : Option Data) → q ≡ id → r ≡ id → w ≡ id → before ≡ value_at m r
      → option_map maybe_data left ≡ left_on admits q c before → left ≡ Some written → after ≡ set_at m w (maybe_data written) → after ≡ step_at admits m id c
  stepped m after id q r w c left written before q_is r_is w_is before_is left_is some_is after_is =
      after_is ∙ ap (λ k. set_at m k (maybe_data written)) w_is
      ∙ stepped_at m id c (maybe_data written) (acts_on admits id c (value_at m id)) refl
      (sym (ap (option_map maybe_data) some_is) ∙ left_is ∙ (λ i. left_on admits (q_is i) c ((before_is ∙ ap (value_at m) r_is) i)))

  pub rising-replay : (m : Pairs) (diffs : List RecordOps) → AreRising m → AreRising (replay admits m diffs)
  rising-replay m [] rising = rising
  rising-replay m (diff ∷ diffs) rising = rising-replay (step admits m diff) diffs (rising-step admits diff m rising)

twice : {X : Type 0} (b : Bool) (x : X) (xs : List X) (test : X → Bool) → test x ≡ b → filter test xs ≡ xs → filter test (cond b (x ∷ xs) xs) ≡ cond b (x ∷ xs) xs
twice true x xs test is same = ap (λ b. cond b (x ∷ filter test xs) (filter test xs)) is ∙ ap (λ l. x ∷ l) same
twice false x xs test is same = same

-- a part of a part is that part
pub part-part : (test : List ℕ → Bool) (m : Pairs) → records_with test (records_with test m) ≡ records_with test m
part-part test [] = refl
part-part test (p ∷ m) = twice (test p.0) p (records_with test m) (λ p. test p.0) refl (part-part test m)
