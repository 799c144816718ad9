use Rattle.std.proofs.Common.{◌≡◌, ◌++◌, drop}
use Rattle.index_keys.specs.Between.{midpoint_within}
use Rattle.index_keys.proofs.fraction.push_midpoint_within.Given as goal

abbrev pub invariant-loop-place : goal.invariant-loop-place
invariant-loop-place l =
    l.key.items ++ midpoint_within (drop l.place l.below) (drop l.place l.above)
    ≡ l.initial.key.items ++ midpoint_within l.below l.above
