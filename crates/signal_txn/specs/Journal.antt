-- What transactions keep together.
use Rattle.std.specs.Prelude.{List, [], ◌∷◌, reverse}
use Rattle.signal_txn.specs.declared.write.Write.{Write}
use Rattle.signal_txn.specs.LastWrites.{LastWrites, one_write, followed}
use Rattle.signal_txn.specs.Level.{Level}

-- what each open transaction keeps, the newest first, and the last of the writes that are committed
pub record Journal (K V : Type 0) : Type 0 where
  pub levels : List (Level K V)
  pub ring : LastWrites K V

-- the journal of levels that grow at their end
abbrev pub journal_of : {K V : Type 0} → List (Level K V) → LastWrites K V → Journal K V
journal_of levels ring = record { levels = reverse levels; ring = ring }

-- a write joins those of the newest open transaction, or else the committed ones
abbrev pub joined : {K V : Type 0} → Write K V → List (Level K V) → LastWrites K V → Journal K V
joined write [] ring = record { levels = []; ring = followed ring (one_write write) }
joined write (level ∷ around) ring =
    record { levels = record level { last = followed level.last (one_write write) } ∷ around; ring = ring }

-- the newest transaction is committed: its writes join those of the one around it, which knows the values before of its
-- keys, or else the committed ones
abbrev pub committed : {K V : Type 0} → List (Level K V) → LastWrites K V → Journal K V
committed [] ring = record { levels = []; ring = ring }
committed (level ∷ []) ring = record { levels = []; ring = followed ring level.last }
committed (level ∷ outer ∷ around) ring =
    record { levels = record outer { last = followed outer.last level.last } ∷ around; ring = ring }
