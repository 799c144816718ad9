use Rattle.std.proofs.Common.{◌≡◌, ◌<◌, ◌++◌, take, drop, map, length, ap, sym, ◌∙◌, refl, arith, rules}
use Rattle.std.proofs.lemmas.List.{length-set}
use Rattle.links_core.proofs.WriteLemmas.{write_back}
use Rattle.std.proofs.lemmas.Option.{same_Some}
use Rattle.std.proofs.Math.ListN.{set}
use Rattle.links_core.specs.Lists.{without}
use Rattle.links_core.specs.Writes.{unlinked}
use Rattle.links_core.specs.Threads.{walks, AreThreads}
use Rattle.links_core.proofs.ChangeLemmas.{linked_made, unlink_asks, after_unlink, sound}
use Rattle.links_core.proofs.links.Links.unlink.Goals as goal

pub index-entry-requires : goal.index-entry-requires
index-entry-requires c =
    omega (arith, linked_made _ _ c.args.node c.self.invariant (rw (← c.self.view_is) at c.requires))

pub unreachable-requires : goal.unreachable-requires
unreachable-requires c =
    let asks = unlink_asks _ _ c.args.node (length c.self.inside.nodes.items) (length c.self.inside.ends.items) c.index-entry.result.now c.self.invariant (rw (← c.self.view_is) at c.requires) refl refl c.index-entry.ensures in
    c.in_default.not-Some asks.2.0 asks.2.1

pub set_next-requires-clause-before : goal.set_next-requires-clause-before
set_next-requires-clause-before c =
    (unlink_asks _ _ c.args.node (length c.as_mut_slice-nodes.result.now) (length c.self.inside.ends.items) c.index-entry.result.now c.self.invariant (rw (← c.self.view_is) at c.requires) (ap length c.as_mut_slice-nodes.ensures.value) refl c.index-entry.ensures).0

pub set_next-requires-clause-list : goal.set_next-requires-clause-list
set_next-requires-clause-list c =
    let asks = unlink_asks _ _ c.args.node (length c.self.inside.nodes.items) (length c.as_mut_slice-ends.result.now) c.index-entry.result.now c.self.invariant (rw (← c.self.view_is) at c.requires) refl (ap length c.as_mut_slice-ends.ensures.value) c.index-entry.ensures in
    let same = same_Some _ _ (sym asks.2.1 ∙ c.in-Some.is) in
    omega (arith, asks.2.2, same)

pub set_prev-requires-clause-after : goal.set_prev-requires-clause-after
set_prev-requires-clause-after c =
    (unlink_asks _ _ c.args.node (length c.set_next.new.nodes) (length c.self.inside.ends.items) c.index-entry.result.now c.self.invariant (rw (← c.self.view_is) at c.requires) (omega (arith, ap length c.as_mut_slice-nodes.ensures.value, c.set_next.auto.nodes)) refl c.index-entry.ensures).1

pub set_prev-requires-clause-list : goal.set_prev-requires-clause-list
set_prev-requires-clause-list c =
    let asks = unlink_asks _ _ c.args.node (length c.self.inside.nodes.items) (length c.as_mut_slice-ends.result.now) c.index-entry.result.now c.self.invariant (rw (← c.self.view_is) at c.requires) refl (ap length c.as_mut_slice-ends.ensures.value) c.index-entry.ensures in
    let same = same_Some _ _ (sym asks.2.1 ∙ c.in-Some.is) in
    omega (arith, asks.2.2, same, c.set_next.auto.ends)

pub bounds-nodes-node : goal.bounds-nodes-node
bounds-nodes-node c =
    omega (arith, linked_made _ _ c.args.node c.self.invariant (rw (← c.self.view_is) at c.requires), ap length c.as_mut_slice-nodes.ensures.value, c.set_next.auto.nodes, c.set_prev.auto.nodes)

pub offset_bounds-nodes-node : goal.offset_bounds-nodes-node
offset_bounds-nodes-node c =
    let low : c.args.node < length c.as_mut_slice-nodes.result.now = omega (arith, linked_made _ _ c.args.node c.self.invariant (rw (← c.self.view_is) at c.requires), ap length c.as_mut_slice-nodes.ensures.value) in
    let same : length c.set_prev.new.nodes ≡ length c.as_mut_slice-nodes.result.now = omega (arith, c.set_next.auto.nodes, c.set_prev.auto.nodes) in
    search rules

same_length : (c : goal.After-self-2-1) → length (set c.set_prev.new.nodes c.args.node unlinked) ≡ length c.self.inside.nodes.items
same_length c =
    omega (arith, length-set c.set_prev.new.nodes c.args.node unlinked, ap length c.as_mut_slice-nodes.ensures.value, c.set_next.auto.nodes, c.set_prev.auto.nodes)

nodes_back : (c : goal.After-self-2-1) → take c.self.inside.nodes.len (set c.set_prev.new.nodes c.args.node unlinked ++ drop (length (set c.set_prev.new.nodes c.args.node unlinked)) c.self.inside.nodes.items) ≡ set c.set_prev.new.nodes c.args.node unlinked
nodes_back c = write_back _ _ _ (same_length c) (omega arith)

ends_back : (c : goal.After-self-2-1) → take c.self.inside.ends.len (c.set_prev.new.ends ++ drop (length c.set_prev.new.ends) c.self.inside.ends.items) ≡ c.set_prev.new.ends
ends_back c =
    write_back _ _ _ (omega (arith, ap length c.as_mut_slice-ends.ensures.value, c.set_next.auto.ends, c.set_prev.auto.ends)) (omega arith)

threads : (c : goal.After-self-2-1) → AreThreads (set c.set_prev.new.nodes c.args.node unlinked) c.set_prev.new.ends (walks (set c.set_prev.new.nodes c.args.node unlinked) c.set_prev.new.ends) × (walks (set c.set_prev.new.nodes c.args.node unlinked) c.set_prev.new.ends ≡ map (without c.args.node) (walks c.self.inside.nodes.items c.self.inside.ends.items))
threads c =
    after_unlink c.self.inside.nodes.items c.self.inside.ends.items c.args.node c.in-Some.number c.index-entry.result.now c.as_mut_slice-nodes.result.now c.as_mut_slice-ends.result.now (set c.set_prev.new.nodes c.args.node unlinked) c.set_prev.new.ends c.self.invariant (rw (← c.self.view_is) at c.requires) c.index-entry.ensures c.in-Some.is c.as_mut_slice-nodes.ensures.value c.as_mut_slice-ends.ensures.value (rw (c.set_prev.ensures.nodes, c.set_next.ensures.nodes)) (rw (c.set_prev.ensures.ends, c.set_next.ensures.ends))

pub invariant_of-self : goal.invariant_of-self
invariant_of-self c = rw (nodes_back c, ends_back c) (threads c).0

pub returns-clause-lists : goal.returns-clause-lists
returns-clause-lists c = rw (← c.self.view_is, nodes_back c, ends_back c) (threads c).1

pub returns-clause-sound : goal.returns-clause-sound
returns-clause-sound c =
    rw (nodes_back c, ends_back c) (sound _ _ _ _ (threads c).0 (omega (arith, same_length c)))
