use Rattle.std.proofs.Common.{ℕ, ◌<◌}
use Rattle.signal_core.specs.Watches.{IsWatched}
use Rattle.signal_core.proofs.slots.least_free.Given as goal

abbrev pub invariant-loop-number : goal.invariant-loop-number
invariant-loop-number g l = (other : ℕ) → other < l.number → IsWatched l.watches other
