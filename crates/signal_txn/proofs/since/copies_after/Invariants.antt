use Rattle.std.proofs.Common.{◌≡◌, take}
use Rattle.signal_txn.specs.Since.{diffs_after}
use Rattle.signal_txn.proofs.since.copies_after.Given as goal

abbrev pub invariant-writes : goal.invariant-writes
invariant-writes g l = l.diffs.items ≡ diffs_after l.epoch (take l.i l.writes.items)
