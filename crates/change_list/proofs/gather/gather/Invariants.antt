use Rattle.std.proofs.Common.{◌+◌, ◌-◌, length}
use Rattle.links_core.specs.Lists.{list_at}
use Rattle.change_list.proofs.Steps.{IsGathering}
use Rattle.change_list.proofs.gather.gather.Given as goal

abbrev pub invariant-back : goal.invariant-back
invariant-back g l =
    IsGathering (list_at l.links.lists l.fn.list.number) l.entries l.fn.clock l.at l.initial.found.items l.found.items l.initial.steps l.steps

abbrev pub decreases-back : goal.decreases-back
decreases-back g l =
    length (list_at l.links.lists l.fn.list.number) + length l.initial.found.items - length l.found.items
