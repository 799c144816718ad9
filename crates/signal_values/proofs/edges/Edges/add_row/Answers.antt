use Rattle.std.proofs.Common.{suc, ◌<◌, length, refl, arith}
use Rattle.signal_values.proofs.WiredLemmas.{kids_after, row_after, wired_same}
use Rattle.signal_values.proofs.edges.Edges.add_row.Goals as goal

pub invariant_of-self : goal.invariant_of-self
invariant_of-self c =
    kids_after c.self.inside.by_parent.lists c.self.inside.by_child.lists c.make_list.new.by_child.lists c.self.inside.by_parent.count c.self.inside.by_child.count c.make_list.new.by_child.count c.self.inside.ends.items c.make_list.ensures.lists c.make_list.ensures.count c.self.invariant

pub invariant_of-self-2 : goal.invariant_of-self-2
invariant_of-self-2 c =
    let low : suc (length c.self.inside.by_parent.lists) < length c.make_list.new.by_child.lists = omega (arith, c.in_ok-make_list.ensures.ok, c.list_count-rows.ensures) in
    row_after c.self.inside.by_parent.lists c.make_list.new.by_child.lists c.list.new.self.lists c.self.inside.by_parent.count c.make_list.new.by_child.count c.list.new.self.count c.self.inside.ends.items c.in_ok-list.ensures.ok.1 c.list.ensures.count low
    (kids_after c.self.inside.by_parent.lists c.self.inside.by_child.lists c.make_list.new.by_child.lists c.self.inside.by_parent.count c.self.inside.by_child.count c.make_list.new.by_child.count c.self.inside.ends.items c.make_list.ensures.lists c.make_list.ensures.count c.self.invariant)

pub invariant_of-self-in_err-list : goal.invariant_of-self-in_err-list
invariant_of-self-in_err-list c =
    wired_same c.self.inside.by_parent.lists c.make_list.new.by_child.lists c.list.new.self.lists c.make_list.new.by_child.lists c.self.inside.by_parent.count c.make_list.new.by_child.count c.list.new.self.count c.make_list.new.by_child.count c.self.inside.ends.items c.self.inside.ends.items c.in_err-list.ensures.err refl c.list.ensures.count refl refl
    (kids_after c.self.inside.by_parent.lists c.self.inside.by_child.lists c.make_list.new.by_child.lists c.self.inside.by_parent.count c.self.inside.by_child.count c.make_list.new.by_child.count c.self.inside.ends.items c.make_list.ensures.lists c.make_list.ensures.count c.self.invariant)
