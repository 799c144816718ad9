use Rattle.std.proofs.Common.{◌≡◌, ◌+◌, [], ◌∷◌, ◌++◌, length, take, drop, false, sym, ap, ◌∙◌, arith, w64}
use Rattle.std.proofs.lemmas.Int.{to_z-of_z}
use Rattle.std.proofs.lemmas.List.{take_at, length-set}
use Rattle.links_core.specs.Lists.{list_at}
use Rattle.change_list.specs.Changes.{without_id}
use Rattle.change_list.specs.Kept.{changes_at}
use Rattle.change_list.proofs.OneChange.{Holds, placed, buried, not_in, in_lists, few_dead}
use Rattle.change_list.proofs.change_list.ChangeList.bury.Goals as goal

pub unreachable-requires : goal.unreachable-requires
unreachable-requires c =
    let inside = c.self.inside in
    let gap = rw (c.deref.ensures.value, c.deref-2.ensures.value) at c.in-Err.ensures.absent in
    let live = rw (← c.self.view_is) at c.requires.live in
    not_in inside.entries.items inside.order.items (list_at inside.links.lists 0) c.args.id.now c.in-Err.field-0 gap (λ m q. (c.self.invariant.kept.live_listed m q).0) live

pub move_to-requires-clause-linked : goal.move_to-requires-clause-linked
move_to-requires-clause-linked c =
    let inside = c.self.inside in
    let place = rw (c.deref.ensures.value, c.deref-2.ensures.value) at c.in-Ok.ensures.found in
    let own = placed inside.entries.items inside.order.items c.args.id.now c.in-Ok.place c.index-node.result.now place c.index-node.ensures in
    in_lists inside.links.lists inside.entries.items inside.order.items inside.dead_count c.self.invariant.kept c.index-node.result.now own.in_order

held : (c : goal.After-self-2-1) → Holds c.move_to.new.links.lists c.move_to.new.entries c.self.inside.order.items (c.self.inside.dead_count + 1) (without_id c.args.id.now (changes_at c.self.inside.entries.items (list_at c.self.inside.links.lists 0))) (changes_at c.self.inside.entries.items (list_at c.self.inside.links.lists 1) ++ record { id = c.args.id.now; clock = c.args.clock; live = false } ∷ [])
held c =
    let inside = c.self.inside in
    let node = c.index-node.result.now in
    let place = rw (c.deref.ensures.value, c.deref-2.ensures.value) at c.in-Ok.ensures.found in
    let own = placed inside.entries.items inside.order.items c.args.id.now c.in-Ok.place node place c.index-node.ensures in
    let lists = rw (c.self.invariant.dead_is) at c.move_to.ensures.lists in
    let entries = rw (c.deref_mut.ensures.value, to_z-of_z w64 c.args.clock c.ranges.clock) at c.move_to.ensures.entries in
    let live = rw (← c.self.view_is) at c.requires.live in
    let latest = rw (← c.self.view_is) at c.requires.latest in
    let sound = rw (lists, entries) at c.move_to.ensures.sound in
    rw (lists, entries) (buried inside.links.lists inside.entries.items inside.order.items inside.dead_count c.args.id.now node c.args.clock c.self.invariant.kept own latest live sound)

pub overflow_add-self : goal.overflow_add-self
overflow_add-self c =
    let few = few_dead _ _ _ _ c.self.invariant.kept in
    omega (arith, few, ap length c.deref_mut.ensures.value, c.deref_mut.type_inv)

-- the entries behind the slice that was written
written : (c : goal.After-self-2-1) → take c.self.inside.entries.len (c.move_to.new.entries ++ drop (length c.move_to.new.entries) c.self.inside.entries.items) ≡ c.move_to.new.entries
written c =
    take_at c.move_to.new.entries (drop (length c.move_to.new.entries) c.self.inside.entries.items) c.self.inside.entries.len (omega (arith, ap length c.move_to.ensures.entries, length-set c.deref_mut.result.now, c.deref_mut.ensures.len))

pub invariant_of-self : goal.invariant_of-self
invariant_of-self c = record {
  live_is = c.self.invariant.live_is;
  dead_is = c.self.invariant.dead_is;
  free_is = c.self.invariant.free_is;
  count_is = c.move_to.ensures.count ∙ ap length (sym (written c));
  kept = rw (written c) (held c).kept;
}

pub returns-clause-live : goal.returns-clause-live
returns-clause-live c =
    rw (written c, ← c.self.view_is) (held c).live_is

pub returns-clause-dead : goal.returns-clause-dead
returns-clause-dead c =
    rw (written c, ← c.self.view_is) (held c).dead_is
