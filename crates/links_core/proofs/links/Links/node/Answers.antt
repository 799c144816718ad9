use Rattle.std.proofs.Common.{length, ap, ◌∙◌, arith}
use Rattle.links_core.proofs.ChangeLemmas.{settled, node_made, linked_made}
use Rattle.links_core.proofs.links.Links.node.Goals as goal

pub invariant_of-self-2 : goal.invariant_of-self-2
invariant_of-self-2 c =
    rw (c.push_reserved.ensures.items, c.in_ok-make_room.ensures.items) (settled _ _ _ (node_made _ _ _ c.self.invariant)).0

pub returns-clause-lists : goal.returns-clause-lists
returns-clause-lists c =
    rw (c.push_reserved.ensures.items, c.in_ok-make_room.ensures.items) ((settled _ _ _ (node_made _ _ _ c.self.invariant)).1 ∙ ap (λ s. s.lists) c.self.view_is)

pub returns-clause-unlinked : goal.returns-clause-unlinked
returns-clause-unlinked c =
    rw (c.push_reserved.ensures.items, c.in_ok-make_room.ensures.items, (settled _ _ _ (node_made _ _ _ c.self.invariant)).1) (λ q. absurd (omega (arith, linked_made _ _ _ c.self.invariant q, c.len-number.ensures, ap length c.in_ok-make_room.ensures.items)))
