-- What stands at each id after diffs that are done raw, one after another or merged.
use Rattle.std.proofs.Common.{◌≡◌, ℕ, List, [], ◌∷◌, Bool, true, false, cond, is_eq, Option, Some, None, refl, sym, ap, ◌∙◌}
use Rattle.rooms_val.specs.Data.{Data, Pairs}
use Rattle.rooms_val.specs.Maps.{value_at, AreRising, set_at, ties}
use Rattle.field_ops.specs.RecordOps.{RecordOpTree, RecordOps}
use Rattle.field_ops.specs.Patched.{raw}
use Rattle.field_ops.specs.Laws.{raw_after}
use Rattle.rooms_val.proofs.MapsLemmas.{by_tie, at-set_at, rising-set_at, rising_rest}
use Rattle.doc_model.specs.Documents.{fold_raw}
use Rattle.doc_model.specs.Merging.{both_in_turn, diff_after, merge, merged_at}
use Rattle.doc_model.proofs.InverseLemmas.{none_later}

-- the raw fold does to each record what the diff has for its id
pub at-fold_raw : (diff : RecordOps) (m : Pairs) (q : List ℕ) → AreRising diff → value_at (fold_raw m diff) q ≡ raw_after (value_at diff q) (value_at m q)
at-fold_raw [] m q rising = refl
at-fold_raw (c ∷ diff) m q rising =
    let next = set_at m c.0 (raw c.1 (value_at m c.0)) in
    at-fold_raw diff next q (rising_rest c diff rising)
    ∙ ap (raw_after (value_at diff q)) (at-set_at m c.0 q (raw c.1 (value_at m c.0)))
    ∙ by_tie (λ t. raw_after (value_at diff q) (cond t (raw c.1 (value_at m c.0)) (value_at m q)) ≡ raw_after (cond t (Some c.1) (value_at diff q)) (value_at m q)) q c.0
    (λ same. ap (λ o. raw_after o (raw c.1 (value_at m c.0))) (ap (value_at diff) same ∙ none_later c diff rising) ∙ ap (λ id. raw c.1 (value_at m id)) (sym same)) refl

pub rising-fold_raw : (diff : RecordOps) (m : Pairs) → AreRising m → AreRising (fold_raw m diff)
rising-fold_raw [] m rising = rising
rising-fold_raw (c ∷ diff) m rising = rising-fold_raw diff (set_at m c.0 (raw c.1 (value_at m c.0))) (rising-set_at m c.0 (raw c.1 (value_at m c.0)) rising)

pub at-diff_after : (first second : RecordOps) (q : List ℕ) → value_at (diff_after first second) q ≡ both_in_turn (value_at first q) (value_at second q)
at-diff_after first [] q = elim (value_at first q) as (λ o. o ≡ both_in_turn o None) [ None ↦ refl | Some c ↦ refl ]
at-diff_after first (c ∷ second) q =
    at-set_at (diff_after first second) c.0 q (both_in_turn (value_at first c.0) (Some c.1))
    ∙ by_tie (λ t. cond t (both_in_turn (value_at first c.0) (Some c.1)) (value_at (diff_after first second) q) ≡ both_in_turn (value_at first q) (cond t (Some c.1) (value_at second q))) q c.0
    (λ same. ap (λ id. both_in_turn (value_at first id) (Some c.1)) (sym same)) (at-diff_after first second q)

-- the merged diff has at each id the operations there, in turn from the newest on
pub at-merge : (diffs : List RecordOps) (q : List ℕ) → value_at (merge diffs) q ≡ merged_at diffs q
at-merge [] q = refl
at-merge (diff ∷ newer) q = at-diff_after (merge newer) diff q ∙ ap (λ o. both_in_turn o (value_at diff q)) (at-merge newer q)

pub rising-diff_after : (first second : RecordOps) → AreRising first → AreRising (diff_after first second)
rising-diff_after first [] rising = rising
rising-diff_after first (c ∷ second) rising = rising-set_at (diff_after first second) c.0 (both_in_turn (value_at first c.0) (Some c.1)) (rising-diff_after first second rising)

pub rising-merge : (diffs : List RecordOps) → AreRising (merge diffs)
rising-merge [] = tt
rising-merge (diff ∷ newer) = rising-diff_after (merge newer) diff (rising-merge newer)
