use Rattle.std.proofs.Common.{◌≡◌, ◌≤◌, length}
use Rattle.signal_txn.specs.LastWrites.{most_writes, followed}
use Rattle.signal_txn.proofs.LastWritesLemmas.{some_writes}
use Rattle.signal_txn.proofs.last_writes.LastWrites.join_all.Given as goal

abbrev pub invariant-writes : goal.invariant-writes
invariant-writes g l = record {
  rest : followed l.self (some_writes l.rest.items) ≡ followed l.initial.self (some_writes l.initial.rest.items);
  within : length l.self.writes ≤ most_writes;
}

abbrev pub decreases-writes : goal.decreases-writes
decreases-writes g l = length l.rest.items
