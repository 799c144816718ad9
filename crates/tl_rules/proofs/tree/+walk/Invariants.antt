use Rattle.std.proofs.Common.{◌*◌, ◌+◌, ◌++◌, drop}
use Rattle.tl_rules.specs.Walks.{ids_view}
use Rattle.tl_rules.specs.Trees.{below}
use Rattle.tl_rules.specs.Ids.{flat}
use Rattle.tl_rules.proofs.WalkLemmas.{LeadsTo}
use Rattle.tl_rules.proofs.tree.+walk.Given as goal

abbrev pub decreases-list_below : goal.decreases-list_below
decreases-list_below l = 2 * l.levels

abbrev pub decreases-list_each : goal.decreases-list_each
decreases-list_each l = 2 * l.levels + 1

abbrev pub invariant-list_each-parts : goal.invariant-list_each-parts
invariant-list_each-parts l =
    LeadsTo (λ id. id) (below l.levels) (flat (drop l.part-index l.parts)) (flat l.parts) (ids_view l.walk.ids.items) (ids_view l.fn.walk.ids.items) l.walk.rest.now l.fn.walk.rest.now

abbrev pub invariant-list_each-children : goal.invariant-list_each-children
invariant-list_each-children l =
    LeadsTo (λ id. id) (below l.levels) (drop l.child-index l.child-items ++ flat (drop (l.part-index + 1) l.parts)) (flat l.parts) (ids_view l.walk.ids.items) (ids_view l.fn.walk.ids.items) l.walk.rest.now l.fn.walk.rest.now
