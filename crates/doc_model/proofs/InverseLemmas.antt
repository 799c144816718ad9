-- What a step makes of each record, and that a step by the inverse brings the document back.
use Rattle.std.proofs.Common.{◌≡◌, ℕ, List, [], ◌∷◌, Bool, true, false, cond, is_eq, Option, Some, None, refl, sym, ap, subst, ◌∙◌}
use Rattle.std.specs.Option.{option_map_or, option_and_then}
use Rattle.rooms_val.specs.Data.{Data, Pairs, map, members_of, IsSound, IsSoundRecord}
use Rattle.rooms_val.specs.Maps.{value_at, AreRising, set_at, ties}
use Rattle.field_ops.specs.ValueOps.{Patch, edits_of}
use Rattle.field_ops.specs.RecordOps as change
use Rattle.field_ops.specs.RecordOps.{RecordOpTree, RecordOps}
use Rattle.field_ops.specs.Patched.{raw, patched}
use Rattle.rooms_val.specs.Kinds.{on_map}
use Rattle.field_ops.specs.Inverses.{inverse, patch_back}
use Rattle.rooms_val.proofs.MapsLemmas.{by_tie, order_itself, at-set_at, at-without_key, rising-set_at, rising_rest, taken_first, same_pairs}
use Rattle.rooms_val.proofs.DataLemmas.{rising_pairs, sound_at}
use Rattle.field_ops.proofs.ComposeLemmas.{brings_back}
use Rattle.doc_model.specs.Documents.{acts_on, acts, step_at, step}
use Rattle.doc_model.specs.Inverses.{record_after, inverse_on, inverse_of_op, inverse_diff, ArePatchedAdmitted}

-- the first of rising keys doesn't stand later
pub none_later : {X : Type 0} (e : List ℕ × X) (es : List (List ℕ × X)) → AreRising (e ∷ es) → value_at es e.0 ≡ None
none_later e es rising =
    ap (λ d. value_at d e.0) (taken_first e es rising).rest_is ∙ at-without_key (e ∷ es) e.0 e.0 ∙ ap (λ o. cond (is_eq o) None (value_at (e ∷ es) e.0)) (order_itself e.0)

module _ (admits : List ℕ → Data → Bool) where
  pub at-step_at : (m : Pairs) (id q : List ℕ) (c : RecordOpTree) → value_at (step_at admits m id c) q ≡ cond (ties q id) (record_after admits id (Some c) (value_at m id)) (value_at m q)
  at-step_at m id q c =
      elim (acts_on admits id c (value_at m id)) as (λ b. value_at (cond b (set_at m id (raw c (value_at m id))) m) q ≡ cond (ties q id) (cond b (raw c (value_at m id)) (value_at m id)) (value_at m q)) [
        | true ↦ at-set_at m id q (raw c (value_at m id))
        | false ↦ by_tie (λ t. value_at m q ≡ cond t (value_at m id) (value_at m q)) q id (λ same. ap (value_at m) same) refl
      ]

  rising-step_at : (m : Pairs) (id : List ℕ) (c : RecordOpTree) → AreRising m → AreRising (step_at admits m id c)
  rising-step_at m id c rising = elim (acts admits m id c) as (λ b. AreRising (cond b (set_at m id (raw c (value_at m id))) m)) [ true ↦ rising-set_at m id _ rising | false ↦ rising ]

  pub rising-step : (diff : RecordOps) (m : Pairs) → AreRising m → AreRising (step admits m diff)
  rising-step [] m rising = rising
  rising-step (c ∷ diff) m rising = rising-step diff (step_at admits m c.0 c.1) (rising-step_at m c.0 c.1 rising)

  -- a step does to each record what the diff has for its id
  pub at-step : (diff : RecordOps) (m : Pairs) (q : List ℕ) → AreRising diff → value_at (step admits m diff) q ≡ record_after admits q (value_at diff q) (value_at m q)
  at-step [] m q rising = refl
  at-step (c ∷ diff) m q rising =
      at-step diff (step_at admits m c.0 c.1) q (rising_rest c diff rising)
      ∙ ap (record_after admits q (value_at diff q)) (at-step_at m c.0 q c.1)
      ∙ by_tie (λ t. record_after admits q (value_at diff q) (cond t (record_after admits c.0 (Some c.1) (value_at m c.0)) (value_at m q)) ≡ record_after admits q (cond t (Some c.1) (value_at diff q)) (value_at m q)) q c.0
      (λ same.
      ap (λ o. record_after admits q o (record_after admits c.0 (Some c.1) (value_at m c.0))) (ap (value_at diff) same ∙ none_later c diff rising)
      ∙ ap (λ id. record_after admits id (Some c.1) (value_at m id)) (sym same)) refl

  pub rising-inverse_diff : (m : Pairs) (diff : RecordOps) → AreRising (inverse_diff admits m diff)
  rising-inverse_diff m [] = tt
  rising-inverse_diff m (c ∷ diff) = rising-set_at (inverse_diff admits m diff) c.0 (inverse_of_op admits m c.0 c.1) (rising-inverse_diff m diff)

  pub at-inverse_diff : (m : Pairs) (diff : RecordOps) (q : List ℕ) → value_at (inverse_diff admits m diff) q ≡ option_and_then (λ c. inverse_on admits q c (value_at m q)) (value_at diff q)
  at-inverse_diff m [] q = refl
  at-inverse_diff m (c ∷ diff) q =
      at-set_at (inverse_diff admits m diff) c.0 q (inverse_of_op admits m c.0 c.1)
      ∙ by_tie (λ t. cond t (inverse_of_op admits m c.0 c.1) (value_at (inverse_diff admits m diff) q) ≡ option_and_then (λ d. inverse_on admits q d (value_at m q)) (cond t (Some c.1) (value_at diff q))) q c.0
      (λ same. ap (λ id. inverse_on admits id c.1 (value_at m id)) (sym same)) (at-inverse_diff m diff q)

  -- a record under an operation and then under its inverse, where a patched one was admitted
  back : (q : List ℕ) (o : Option RecordOpTree) (r : Option Data) → IsSoundRecord r → ((p : Patch) → o ≡ Some (change.patch p) → acts_on admits q (change.patch p) r ≡ true → option_map_or (admits q) r false ≡ true)
      → record_after admits q (option_and_then (λ c. inverse_on admits q c r) o) (record_after admits q o r) ≡ r
  back q None r sound was = refl
  back q (Some (change.put d)) None sound was = refl
  back q (Some (change.put d)) (Some x) sound was = refl
  back q (Some change.remove) None sound was = refl
  back q (Some change.remove) (Some x) sound was = refl
  back q (Some (change.patch p)) None sound was = refl
  back q (Some (change.patch p)) (Some x) sound was =
      let y = on_map (λ f. patched (edits_of p) f) x in
      let undo = change.patch (patch_back p x) in
      elim (admits q y) as (λ b. admits q y ≡ b → record_after admits q (cond b (Some undo) None) (cond b (Some y) (Some x)) ≡ Some x) [
        | true ↦ λ is.
            let brought : raw undo (Some y) ≡ Some x = brings_back (change.patch p) (Some x) sound in
            ap (λ r. cond (option_map_or (admits q) r false) r (Some y)) brought ∙ ap (λ b. cond b (Some x) (Some y)) (was p refl is)
        | false ↦ λ is. refl
      ] refl

  pub step-inverse_diff : (m : Pairs) (diff : RecordOps) → IsSound (map (members_of m)) → AreRising diff → ArePatchedAdmitted admits m diff → step admits (step admits m diff) (inverse_diff admits m diff) ≡ m
  step-inverse_diff m diff sound rising was =
      let rises = rising_pairs m sound in
      same_pairs _ m (rising-step (inverse_diff admits m diff) (step admits m diff) (rising-step diff m rises)) rises (λ q.
      at-step (inverse_diff admits m diff) (step admits m diff) q (rising-inverse_diff m diff)
      ∙ (λ i. record_after admits q (at-inverse_diff m diff q i) (at-step diff m q rising i))
      ∙ back q (value_at diff q) (value_at m q) (sound_at m q sound.1) (was q))
