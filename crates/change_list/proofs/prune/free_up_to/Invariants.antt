use Rattle.std.proofs.Common.{◌≡◌, length}
use Rattle.links_core.specs.Lists.{list_at}
use Rattle.change_list.proofs.Takes.{IsFreeing}
use Rattle.change_list.proofs.prune.free_up_to.Given as goal

abbrev pub invariant-dropped : goal.invariant-dropped
invariant-dropped l =
    IsFreeing l.initial.links.lists l.links.lists l.entries l.fn.clock l.count × (l.links.count ≡ l.initial.links.count) × (l.links.spare ≡ l.initial.links.spare)

abbrev pub decreases-dropped : goal.decreases-dropped
decreases-dropped l = length (list_at l.links.lists 1)
