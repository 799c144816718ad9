use Rattle.std.proofs.Common.{◌≤◌, ◌-◌, length}
use Rattle.tl_rules.proofs.ids.Part.guess.Given as goal

abbrev pub invariant-halves : goal.invariant-halves
invariant-halves l = record { order : l.low ≤ l.high; ids : l.high ≤ length l.ids; hints : l.high ≤ length l.hints }

abbrev pub decreases-halves : goal.decreases-halves
decreases-halves l = l.high - l.low
