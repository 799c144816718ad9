-- What was written since an epoch.
use Rattle.std.specs.Prelude.{◌≡◌, ◌⊎◌, ℕ, ◌<◌}
use Rattle.signal_values.specs.Seen.{top}
use Rattle.signal_txn.specs.declared.since.Since.{Since}
use Rattle.signal_txn.specs.declared.since.Since.TheVariants.{Diffs, Reset}
pub use Rattle.signal_txn.specs.Diffs.{diff_of, diffs_after}
use Rattle.signal_txn.specs.Histories.{History, last_list}
use Rattle.signal_txn.specs.Seen.{Seen}

-- what was written after an epoch isn't known: writes after it fell out, or it isn't one of this graph's, or the epoch
-- rises no more
abbrev pub IsUnknown : {R K V : Type 0} → Seen R K V → ℕ → Type 0
IsUnknown txn epoch =
    (epoch < txn.journal.ring.dropped) ⊎ ((txn.graph.values.epoch < epoch) ⊎ (txn.graph.values.epoch ≡ top))

-- the committed writes after an epoch that are kept, in their order, or that they aren't known
abbrev pub IsSince : {R K V : Type 0} → Seen R K V → ℕ → Since K V → Type 0
IsSince txn epoch (Diffs diffs) =
    (IsUnknown txn epoch → ⊥) × (diffs.items ≡ diffs_after epoch txn.journal.ring.writes)
IsSince txn epoch Reset = IsUnknown txn epoch

-- these are all committed writes after an epoch
abbrev pub AreAllSince : {K V : Type 0} → History K V → ℕ → Since K V → Type 0
AreAllSince history epoch (Diffs diffs) = diffs.items ≡ diffs_after epoch (last_list history)
AreAllSince history epoch Reset = Unit {0}
