use Rattle.std.proofs.Common.{◌≡◌, ◌++◌, drop}
use Rattle.index_keys.specs.Between.{midpoint_open}
use Rattle.index_keys.proofs.fraction.push_midpoint_open.Given as goal

abbrev pub invariant-loop-low : goal.invariant-loop-low
invariant-loop-low l =
    l.key.items ++ midpoint_open (drop l.low-index l.below) ≡ l.initial.key.items ++ midpoint_open l.below
