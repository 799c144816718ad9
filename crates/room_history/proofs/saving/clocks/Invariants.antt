use Rattle.std.proofs.Common.{◌≡◌, [], fold, drop}
use Rattle.room_history.specs.Clocks.{with_clock}
use Rattle.room_history.proofs.saving.clocks.Given as goal

abbrev pub invariant-changes : goal.invariant-changes
invariant-changes l = fold with_clock l.clocks (drop l.change-index l.changes) ≡ fold with_clock [] l.changes
