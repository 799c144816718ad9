use Rattle.std.proofs.Common.{◌≡◌, ℕ, [], ◌∷◌, ◌++◌, length, set, take, drop, true, List, refl, sym, ap, subst, ◌∙◌, arith, w64}
use Rattle.std.specs.List.{insert}
use Rattle.std.proofs.lemmas.Int.{to_z-of_z}
use Rattle.std.proofs.lemmas.List.{take_at, length-set}
use Rattle.links_core.specs.Lists.{list_at, AreSound}
use Rattle.links_core.proofs.Members.{without_all}
use Rattle.change_list.specs.Changes.{without_id}
use Rattle.change_list.specs.Kept.{changes_at, moved}
use Rattle.change_list.proofs.OneChange.{Holds, placed, touched, added, not_listed, in_lists, made_in, some_dead}
use Rattle.change_list.proofs.change_list.ChangeList.touch.Goals as goal

pub dead_without-self-inside-requires-clause-made : goal.dead_without-self-inside-requires-clause-made
dead_without-self-inside-requires-clause-made c =
    let inside = c.self.inside in
    let place = rw (c.deref.ensures.value, c.deref-2.ensures.value) at c.in-Ok.ensures.found in
    let own = placed inside.entries.items inside.order.items _ c.in-Ok.place c.index-node.result.now place c.index-node.ensures in
    let low = made_in inside.links.lists inside.entries.items inside.order.items inside.dead_count c.self.invariant.kept c.index-node.result.now own.in_order in
    omega (arith, low, ap length c.deref-in-Ok.ensures.value)

pub dead_without-self-inside-requires-clause-counted : goal.dead_without-self-inside-requires-clause-counted
dead_without-self-inside-requires-clause-counted c =
    let inside = c.self.inside in
    let place = rw (c.deref.ensures.value, c.deref-2.ensures.value) at c.in-Ok.ensures.found in
    let own = placed inside.entries.items inside.order.items _ c.in-Ok.place c.index-node.result.now place c.index-node.ensures in
    rw c.deref-in-Ok.ensures.value (some_dead inside.links.lists inside.entries.items inside.order.items inside.dead_count c.self.invariant.kept c.index-node.result.now own.in_order)

pub move_to-requires-clause-linked : goal.move_to-requires-clause-linked
move_to-requires-clause-linked c =
    let inside = c.self.inside in
    let place = rw (c.deref.ensures.value, c.deref-2.ensures.value) at c.in-Ok.ensures.found in
    let own = placed inside.entries.items inside.order.items _ c.in-Ok.place c.index-node.result.now place c.index-node.ensures in
    in_lists inside.links.lists inside.entries.items inside.order.items inside.dead_count c.self.invariant.kept c.index-node.result.now own.in_order

-- what a touch of a listed id leaves
held : (c : goal.Joined-id) → Holds c.move_to.new.links.lists c.move_to.new.entries c.self.inside.order.items c.dead_without-self-inside.result (without_id c.args.id (changes_at c.self.inside.entries.items (list_at c.self.inside.links.lists 0)) ++ record { id = c.args.id; clock = c.args.clock; live = true } ∷ []) (without_id c.args.id (changes_at c.self.inside.entries.items (list_at c.self.inside.links.lists 1)))
held c =
    let inside = c.self.inside in
    let node = c.index-node.result.now in
    let place = rw (c.deref.ensures.value, c.deref-2.ensures.value, c.as_str.ensures.bytes) at c.in-Ok.ensures.found in
    let own = placed inside.entries.items inside.order.items c.args.id c.in-Ok.place node place c.index-node.ensures in
    let lists = rw (c.self.invariant.live_is) at c.move_to.ensures.lists in
    let entries = rw (c.deref_mut.ensures.value, to_z-of_z w64 c.args.clock c.ranges.clock) at c.move_to.ensures.entries in
    let latest = rw (← c.self.view_is) at c.requires in
    let alive = rw c.deref-in-Ok.ensures.value at c.dead_without-self-inside.ensures.live in
    let gone = rw c.deref-in-Ok.ensures.value at c.dead_without-self-inside.ensures.dead in
    let sound = rw (lists, entries) at c.move_to.ensures.sound in
    rw (lists, entries) (touched inside.links.lists inside.entries.items inside.order.items inside.dead_count c.args.id node c.args.clock c.self.invariant.kept own latest c.dead_without-self-inside.result alive gone sound)

-- the entries behind the slice that was written
written : (c : goal.Joined-id) → take c.self.inside.entries.len (c.move_to.new.entries ++ drop (length c.move_to.new.entries) c.self.inside.entries.items) ≡ c.move_to.new.entries
written c =
    take_at c.move_to.new.entries (drop (length c.move_to.new.entries) c.self.inside.entries.items) c.self.inside.entries.len (omega (arith, ap length c.move_to.ensures.entries, length-set c.deref_mut.result.now, c.deref_mut.ensures.len))

pub invariant_of-self : goal.invariant_of-self
invariant_of-self c = record {
  live_is = c.self.invariant.live_is;
  dead_is = c.self.invariant.dead_is;
  free_is = c.self.invariant.free_is;
  count_is = c.move_to.ensures.count ∙ ap length (sym (written c));
  kept = rw (written c) (held c).kept;
}

pub returns-in-Ok-clause-live : goal.returns-in-Ok-clause-live
returns-in-Ok-clause-live c = rw (written c, ← c.self.view_is) (held c).live_is

pub returns-in-Ok-clause-dead : goal.returns-in-Ok-clause-dead
returns-in-Ok-clause-dead c = rw (written c, ← c.self.view_is) (held c).dead_is

pub returns-in_err-reserve-clause-again : goal.returns-in_err-reserve-clause-again
returns-in_err-reserve-clause-again c = λ q.
    let inside = c.self.inside in
    let gap = rw (c.deref.ensures.value, c.deref-2.ensures.value, c.as_str.ensures.bytes) at c.in-Err.ensures.absent in
    absurd (not_listed inside.links.lists inside.entries.items inside.order.items inside.dead_count c.args.id c.in-Err.place c.self.invariant.kept gap (rw (← c.self.view_is) at q))

pub returns-in_err-node-clause-again : goal.returns-in_err-node-clause-again
returns-in_err-node-clause-again c = λ q.
    let inside = c.self.inside in
    let gap = rw (c.deref.ensures.value, c.deref-2.ensures.value, c.as_str.ensures.bytes) at c.in-Err.ensures.absent in
    absurd (not_listed inside.links.lists inside.entries.items inside.order.items inside.dead_count c.args.id c.in-Err.place c.self.invariant.kept gap (rw (← c.self.view_is) at q))

pub push_back-requires-clause-unlinked : goal.push_back-requires-clause-unlinked
push_back-requires-clause-unlinked c =
    rw c.in_ok-node.ensures.ok.lists (without_all c.self.inside.links.lists c.in_ok-node.node)

-- what a touch of a new id leaves
more : (c : goal.After-push_back) → Holds c.push_back.new.self.lists c.take_node.new.entries.items c.insert_node.new.order.items c.self.inside.dead_count (without_id c.args.id (changes_at c.self.inside.entries.items (list_at c.self.inside.links.lists 0)) ++ record { id = c.args.id; clock = c.args.clock; live = true } ∷ []) (without_id c.args.id (changes_at c.self.inside.entries.items (list_at c.self.inside.links.lists 1)))
more c =
    let inside = c.self.inside in
    let node = c.in_ok-node.node in
    let gap = rw (c.deref.ensures.value, c.deref-2.ensures.value, c.as_str.ensures.bytes) at c.in-Err.ensures.absent in
    let taken = rw (c.self.invariant.free_is, to_z-of_z w64 c.args.clock c.ranges.clock) at c.in_ok-node.ensures.ok in
    let lists : c.push_back.new.self.lists ≡ moved node 0 inside.links.lists = c.push_back.ensures.lists ∙ ap (λ ls. set ls inside.live.number (list_at ls inside.live.number ++ node ∷ [])) taken.lists ∙ ap (λ m. moved node m inside.links.lists) c.self.invariant.live_is in
    let count : c.push_back.new.self.count ≡ length c.take_node.new.entries.items = c.push_back.ensures.count ∙ c.take_node.ensures.count in
    let sound : AreSound (moved node 0 inside.links.lists) (length c.take_node.new.entries.items) = subst (λ (n : ℕ). AreSound (moved node 0 inside.links.lists) n) count (subst (λ (ls : List (List ℕ)). AreSound ls c.push_back.new.self.count) lists c.push_back.ensures.sound) in
    let items : c.insert_node.new.order.items ≡ insert inside.order.items c.in-Err.place node = c.insert_node.ensures.items ∙ ap (λ xs. insert xs c.in-Err.place node) c.reserve.ensures.items in
    let latest = rw (← c.self.view_is) at c.requires in
    rw (lists, items) (added inside.links.lists c.take_node.new.links.lists inside.entries.items c.take_node.new.entries.items inside.order.items inside.dead_count (record { id = c.args.id; clock = c.args.clock; live = true }) node c.in-Err.place c.self.invariant.kept taken gap refl latest sound)

pub invariant_of-self-2 : goal.invariant_of-self-2
invariant_of-self-2 c = record {
  live_is = c.self.invariant.live_is;
  dead_is = c.self.invariant.dead_is;
  free_is = c.self.invariant.free_is;
  count_is = c.push_back.ensures.count ∙ c.take_node.ensures.count;
  kept = (more c).kept;
}

pub returns-clause-live : goal.returns-clause-live
returns-clause-live c = rw (← c.self.view_is) (more c).live_is

pub returns-clause-dead : goal.returns-clause-dead
returns-clause-dead c = rw (← c.self.view_is) (more c).dead_is

pub returns-clause-kept : goal.returns-clause-kept
returns-clause-kept c = λ q.
    let inside = c.self.inside in
    let gap = rw (c.deref.ensures.value, c.deref-2.ensures.value, c.as_str.ensures.bytes) at c.in-Err.ensures.absent in
    absurd (not_listed inside.links.lists inside.entries.items inside.order.items inside.dead_count c.args.id c.in-Err.place c.self.invariant.kept gap (rw (← c.self.view_is) at q))
