-- What each open transaction keeps of the writes after an epoch.
use Rattle.std.specs.Prelude.{◌≡◌, ℕ, ◌≤◌, List, [], ◌∷◌}
use Rattle.signal_txn.specs.LastWrites.{LastWrites}
use Rattle.signal_txn.specs.Level.{Level}
use Rattle.signal_txn.specs.Journal.{Journal}
use Rattle.signal_txn.specs.Diffs.{diffs_after}

-- the diffs after an epoch that each open transaction keeps, the newest first, and last the committed ones
abbrev pub diffs_in : {K V : Type 0} → ℕ → List (Level K V) → LastWrites K V → List (List (K × V))
diffs_in since [] ring = diffs_after since ring.writes ∷ []
diffs_in since (level ∷ around) ring =
    diffs_after since level.last.writes ∷ diffs_in since around ring

-- so of a journal
abbrev pub diffs_of : {K V : Type 0} → ℕ → Journal K V → List (List (K × V))
diffs_of since journal = diffs_in since journal.levels journal.ring

-- of the writes after an epoch none fell out
abbrev pub AreWholeIn : {K V : Type 0} → ℕ → List (Level K V) → LastWrites K V → Type 0
AreWholeIn since [] ring = ring.dropped ≤ since
AreWholeIn since (level ∷ around) ring = (level.last.dropped ≤ since) × AreWholeIn since around ring

-- so of a journal
abbrev pub AreWhole : {K V : Type 0} → ℕ → Journal K V → Type 0
AreWhole since journal = AreWholeIn since journal.levels journal.ring

-- where nothing fell out after an epoch, nothing had, and the diffs that are kept are what this function makes of those
-- that were
pub record PassesOn {K V : Type 0} (after : List (List (K × V)) → List (List (K × V)))
    (old new : Journal K V) (since : ℕ) : Type 0 where
  pub whole : AreWhole since new → AreWhole since old
  pub diffs : AreWhole since new → diffs_of since new ≡ after (diffs_of since old)
