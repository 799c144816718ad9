-- The last of some writes.
use Rattle.std.specs.Prelude.{◌≡◌, ℕ, ◌-◌, ◌≤◌, List, [], ◌∷◌, ◌++◌, length, take, max}
use Rattle.circular_buffer.specs.Buffer.{Buffer, keep_last}
use Rattle.signal_txn.specs.declared.write.Write.{Write}

-- how many writes are kept
abbrev pub most_writes : ℕ
most_writes = 256

-- the last 256 of some writes, the oldest first, and the epoch of the last write that fell out, 0 where none did
pub record LastWrites (K V : Type 0) : Type 0 where
  pub writes : List (Write K V)
  pub dropped : ℕ

abbrev pub no_writes : {K V : Type 0} → LastWrites K V
no_writes = record { writes = []; dropped = 0 }

abbrev pub one_write : {K V : Type 0} → Write K V → LastWrites K V
one_write write = record { writes = write ∷ []; dropped = 0 }

-- of these writes, those that aren't kept: all but the last 256
abbrev pub fallen : {K V : Type 0} → List (Write K V) → List (Write K V)
fallen writes = take (length writes - most_writes) writes

-- the epoch of the last of some writes, or else this one
abbrev pub last_epoch : {K V : Type 0} → ℕ → List (Write K V) → ℕ
last_epoch epoch [] = epoch
last_epoch epoch (write ∷ writes) = last_epoch write.epoch writes

-- what is kept of some writes: the last 256, with the epoch of the last that fell out
abbrev pub kept : {K V : Type 0} → List (Write K V) → LastWrites K V
kept writes = record {
  writes = keep_last most_writes writes;
  dropped = last_epoch 0 (fallen writes);
}

-- some writes and later ones: the last 256 of both, and the epoch of the last that fell out of either, which is the
-- greater one, or of both together
abbrev pub followed : {K V : Type 0} → LastWrites K V → LastWrites K V → LastWrites K V
followed first later = record {
  writes = keep_last most_writes (first.writes ++ later.writes);
  dropped = max (last_epoch first.dropped (fallen (first.writes ++ later.writes))) later.dropped;
}

-- a buffer has room for as many writes as are kept, and has no more
pub record IsRing {K V : Type 0} (buffer : Buffer (Write K V)) : Type 0 where
  pub room : buffer.capacity ≡ most_writes
  pub within : length buffer.items ≤ most_writes
