use Rattle.std.proofs.Common.{◌≡◌, [], ◌∷◌, ◌++◌, length, get_or, take, drop, set, Some, None, ap, ◌∙◌, arith}
use Rattle.std.proofs.lemmas.List.{length-set}
use Rattle.links_core.specs.declared.nodes.Node.{Node}
use Rattle.links_core.specs.Lists.{list_at}
use Rattle.links_core.specs.Writes.{no_ends}
use Rattle.links_core.specs.Threads.{walks, AreThreads}
use Rattle.links_core.proofs.WriteLemmas.{write_back}
use Rattle.links_core.proofs.ChangeLemmas.{after_push, sound, ends_made}
use Rattle.links_core.proofs.links.Links.push_back.Goals as goal

pub set_next-requires-clause-before : goal.set_next-requires-clause-before
set_next-requires-clause-before c =
    ends_made c.self.inside.nodes.items c.self.inside.ends.items _ c.args.list.number _ _ c.self.invariant (rw (← c.self.view_is) at c.requires.list) (length-set _ _ _ ∙ ap length c.as_mut_slice-nodes.ensures.value) (rw c.as_mut_slice-ends.ensures.value)

same_length : (c : goal.After-self-2-1) → length c.set_prev.new.nodes ≡ length c.self.inside.nodes.items
same_length c =
    let entry : Node = record { list = Some c.args.list.number; prev = (get_or c.as_mut_slice-ends.result.now c.args.list.number no_ends).last; next = None } in
    omega (arith, length-set c.as_mut_slice-nodes.result.now c.args.node entry, ap length c.as_mut_slice-nodes.ensures.value, c.set_next.auto.nodes, c.set_prev.auto.nodes)

nodes_back : (c : goal.After-self-2-1) → take c.self.inside.nodes.len (c.set_prev.new.nodes ++ drop (length c.set_prev.new.nodes) c.self.inside.nodes.items) ≡ c.set_prev.new.nodes
nodes_back c = write_back _ _ _ (same_length c) (omega arith)

ends_back : (c : goal.After-self-2-1) → take c.self.inside.ends.len (c.set_prev.new.ends ++ drop (length c.set_prev.new.ends) c.self.inside.ends.items) ≡ c.set_prev.new.ends
ends_back c =
    write_back _ _ _ (omega (arith, ap length c.as_mut_slice-ends.ensures.value, c.set_next.auto.ends, c.set_prev.auto.ends)) (omega arith)

threads : (c : goal.After-self-2-1) → AreThreads c.set_prev.new.nodes c.set_prev.new.ends (walks c.set_prev.new.nodes c.set_prev.new.ends) × (walks c.set_prev.new.nodes c.set_prev.new.ends ≡ set (walks c.self.inside.nodes.items c.self.inside.ends.items) c.args.list.number (list_at (walks c.self.inside.nodes.items c.self.inside.ends.items) c.args.list.number ++ c.args.node ∷ []))
threads c =
    after_push c.self.inside.nodes.items c.self.inside.ends.items c.args.list.number c.args.node c.as_mut_slice-nodes.result.now c.as_mut_slice-ends.result.now c.set_prev.new.nodes c.set_prev.new.ends c.self.invariant (rw (← c.self.view_is) at c.requires.list) (omega (arith, rw (← c.self.view_is) at c.requires.made)) (rw (← c.self.view_is) at c.requires.unlinked) c.as_mut_slice-nodes.ensures.value c.as_mut_slice-ends.ensures.value (rw (c.set_prev.ensures.nodes, c.set_next.ensures.nodes)) (rw (c.set_prev.ensures.ends, c.set_next.ensures.ends))

pub invariant_of-self : goal.invariant_of-self
invariant_of-self c = rw (nodes_back c, ends_back c) (threads c).0

pub returns-clause-lists : goal.returns-clause-lists
returns-clause-lists c = rw (← c.self.view_is, nodes_back c, ends_back c) (threads c).1

pub returns-clause-sound : goal.returns-clause-sound
returns-clause-sound c =
    rw (nodes_back c, ends_back c) (sound _ _ _ _ (threads c).0 (omega (arith, same_length c)))
