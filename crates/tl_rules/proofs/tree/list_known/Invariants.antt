use Rattle.std.proofs.Common.{◌≡◌, ◌+◌, ◌++◌, drop, length}
use Rattle.std.specs.List.{zip}
use Rattle.tl_rules.specs.Walks.{ids_view}
use Rattle.tl_rules.specs.Trees.{each, below}
use Rattle.tl_rules.specs.Answers.{ids_in}
use Rattle.tl_rules.specs.Ids.{flat}
use Rattle.tl_rules.proofs.WalkLemmas.{LeadsTo}
use Rattle.tl_rules.proofs.tree.list_known.Given as goal

abbrev pub invariant-parts : goal.invariant-parts
invariant-parts l =
    LeadsTo (λ x. x.0) (λ room x. each (λ id. id) (below l.levels) room (ids_in x.1)) (zip (flat (drop l.part-index l.parts)) l.left) (zip (flat l.parts) l.known) (ids_view l.walk.ids.items) (ids_view l.fn.walk.ids.items) l.walk.rest.now l.fn.walk.rest.now
    × (length l.left ≡ length (flat (drop l.part-index l.parts)))

abbrev pub invariant-children : goal.invariant-children
invariant-children l =
    LeadsTo (λ x. x.0) (λ room x. each (λ id. id) (below l.levels) room (ids_in x.1)) (zip (drop l.child-index l.child-items ++ flat (drop (l.part-index + 1) l.parts)) l.left) (zip (flat l.parts) l.known) (ids_view l.walk.ids.items) (ids_view l.fn.walk.ids.items) l.walk.rest.now l.fn.walk.rest.now
    × (length l.left ≡ length (drop l.child-index l.child-items ++ flat (drop (l.part-index + 1) l.parts)))
