use Rattle.std.proofs.Common.{◌≡◌, ◌++◌, ◌+◌, ◌-◌, ◌≤◌, drop, length}
use Rattle.tl_rules.specs.Asking.{merged}
use Rattle.tl_rules.proofs.bound.merge.Given as goal

abbrev pub invariant-both : goal.invariant-both
invariant-both l =
    (l.ids.items ++ merged (drop l.i l.left) (drop l.j l.right) ≡ merged l.left l.right) × (l.i ≤ length l.left) × (l.j ≤ length l.right)

abbrev pub decreases-both : goal.decreases-both
decreases-both l = (length l.left - l.i) + (length l.right - l.j)
