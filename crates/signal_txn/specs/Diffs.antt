-- What writes tell.
use Rattle.std.specs.Prelude.{ℕ, nat_lt, List, map, filter}
use Rattle.signal_txn.specs.declared.write.Write.{Write}

-- the key of a write, and its value from then on
abbrev pub diff_of : {K V : Type 0} → Write K V → K × V
diff_of write = (write.key, write.value)

-- what was written after an epoch
abbrev pub diffs_after : {K V : Type 0} → ℕ → List (Write K V) → List (K × V)
diffs_after epoch writes = map diff_of (filter (λ write. nat_lt epoch write.epoch) writes)
