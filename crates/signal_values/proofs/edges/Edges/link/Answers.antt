use Rattle.std.proofs.Common.{length, map, ap, arith}
use Rattle.std.proofs.lemmas.List.{length-map}
use Rattle.signal_values.specs.Edges.{Children}
use Rattle.signal_values.specs.Wired.{child_at}
use Rattle.signal_values.proofs.WiredLemmas.{taken_linked}
use Rattle.signal_values.proofs.edges.Edges.link.Goals as goal

pub invariant_of-self : goal.invariant_of-self
invariant_of-self c =
    let seen = ap (λ (s : Children). length s.children) c.self.view_is in
    let long = length-map c.self.inside.by_parent.lists (map (child_at c.self.inside.ends.items)) in
    (taken_linked c.self.inside.by_parent c.self.inside.by_child c.take_node-edge.new.by_parent c.take_node-edge.new.by_child c.push_back.new.self c.push_back-2.new.self c.self.inside.ends.items c.take_node-edge.new.ends.items c.id-from.result.number c.id-to.result.number c.args.parent c.args.child c.take_node-edge.result c.self.invariant c.take_node-edge.ensures.taken (omega (arith, c.requires.parent, seen, long)) (omega (arith, c.requires.child, seen, long)) c.id-from.ensures c.id-to.ensures c.push_back.ensures.lists c.push_back.ensures.count c.push_back.ensures.sound c.push_back-2.ensures.lists c.push_back-2.ensures.count c.push_back-2.ensures.sound).0

pub returns-clause-children : goal.returns-clause-children
returns-clause-children c =
    let seen = ap (λ (s : Children). length s.children) c.self.view_is in
    let long = length-map c.self.inside.by_parent.lists (map (child_at c.self.inside.ends.items)) in
    rw (← c.self.view_is) (taken_linked c.self.inside.by_parent c.self.inside.by_child c.take_node-edge.new.by_parent c.take_node-edge.new.by_child c.push_back.new.self c.push_back-2.new.self c.self.inside.ends.items c.take_node-edge.new.ends.items c.id-from.result.number c.id-to.result.number c.args.parent c.args.child c.take_node-edge.result c.self.invariant c.take_node-edge.ensures.taken (omega (arith, c.requires.parent, seen, long)) (omega (arith, c.requires.child, seen, long)) c.id-from.ensures c.id-to.ensures c.push_back.ensures.lists c.push_back.ensures.count c.push_back.ensures.sound c.push_back-2.ensures.lists c.push_back-2.ensures.count c.push_back-2.ensures.sound).1
