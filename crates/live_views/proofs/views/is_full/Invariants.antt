use Rattle.std.proofs.Common.{ℕ, ◌<◌}
use Rattle.signal_core.specs.Watches.{IsWatched}
use Rattle.record_store.specs.Seen.{watches}
use Rattle.live_views.proofs.views.is_full.Given as goal

-- each number so far is watched
abbrev pub invariant-numbers : goal.invariant-numbers
invariant-numbers l = (other : ℕ) → other < l.number → IsWatched (watches l.store) other
