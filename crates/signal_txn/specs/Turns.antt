-- In which order writes stand.
use Rattle.std.specs.Prelude.{ℕ, ◌<◌, ◌≤◌, List, [], ◌∷◌, length}
use Rattle.signal_txn.specs.declared.write.Write.{Write}
use Rattle.signal_txn.specs.LastWrites.{LastWrites, most_writes}
use Rattle.signal_txn.specs.Level.{Level}

-- the epochs of some writes rise, from above one epoch up to another
abbrev pub Rise : {K V : Type 0} → ℕ → List (Write K V) → ℕ → Type 0
Rise low [] high = low ≤ high
Rise low (write ∷ writes) high = (low < write.epoch) × Rise write.epoch writes high

-- the last of the writes from above one epoch up to another: any that fell out came before, and then as many are kept
-- as may be
pub record IsInTurn {K V : Type 0} (low high : ℕ) (last : LastWrites K V) : Type 0 where
  pub above : Rise low last.writes high
  pub fallen : Rise last.dropped last.writes high
  pub full : 0 < last.dropped → most_writes ≤ length last.writes

-- the writes of each open transaction, the newest first, came after those of the one around it, and after the committed
-- ones
abbrev pub AreInTurn : {K V : Type 0} → List (Level K V) → LastWrites K V → ℕ → Type 0
AreInTurn [] ring high = IsInTurn 0 high ring
AreInTurn (level ∷ around) ring high =
    (low : ℕ) × IsInTurn low high level.last × AreInTurn around ring low
