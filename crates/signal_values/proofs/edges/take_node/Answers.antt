use Rattle.std.proofs.Common.{refl, arith}
use Rattle.signal_values.proofs.WiredLemmas.{first_in, reused, made_new}
use Rattle.signal_values.proofs.edges.take_node.Goals as goal

pub index_mut-requires : goal.index_mut-requires
index_mut-requires c =
    omega (arith, c.requires.wired.kid_sound.made 0 c.in-Some.edge (first_in _ _ 0 _ _ c.id-free.ensures c.first.ensures.value c.in-Some.is), c.requires.wired.kid_made, c.args.ends.now.ok.0)

pub returns-in-Some-clause-taken : goal.returns-in-Some-clause-taken
returns-in-Some-clause-taken c =
    reused c.args.by_parent.now c.args.by_child.now c.args.by_parent.now c.unlink.new.self c.args.ends.now.items _ c.args.child c.in-Some.edge c.requires.wired (first_in _ _ 0 _ _ c.id-free.ensures c.first.ensures.value c.in-Some.is) refl c.unlink.ensures.lists c.unlink.ensures.count c.unlink.ensures.sound refl

pub returns-clause-taken : goal.returns-clause-taken
returns-clause-taken c =
    made_new c.args.by_parent.now c.args.by_child.now c.new_node-edge.new.links c.new_node.new.links c.args.ends.now.items c.push_reserved.new.self.items c.args.child c.new_node-edge.result c.requires.wired c.new_node-edge.ensures.lists c.new_node-edge.ensures.count c.new_node.ensures.lists c.new_node.ensures.count c.push_reserved.ensures.items c.new_node-edge.ensures.node
