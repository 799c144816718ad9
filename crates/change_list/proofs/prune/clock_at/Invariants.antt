use Rattle.std.proofs.Common.{◌≡◌, drop}
use Rattle.links_core.specs.Lists.{list_at, first_of}
use Rattle.change_list.proofs.prune.clock_at.Given as goal

abbrev pub invariant-forward : goal.invariant-forward
invariant-forward l = l.at ≡ first_of (drop l.counter (list_at l.links.lists l.fn.list.number))
