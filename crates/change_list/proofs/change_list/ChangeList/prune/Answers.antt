use Rattle.std.proofs.Common.{◌≡◌, ◌-◌, ◌≤◌, true, length, get_or, ap, sym, ◌∙◌, arith, rules, w64, lt-ltb}
use mir.Val.{SFits}
use Rattle.std.specs.Prelude.{nat_lt}
use Rattle.std.proofs.lemmas.Int.{to_z-of_z}
use Rattle.std.proofs.lemmas.List.{length-map}
use Rattle.links_core.specs.Lists.{list_at}
use Rattle.change_list.specs.Changes.{blank, is_after, most_dead, kept_dead}
use Rattle.change_list.specs.Kept.{entry_at, changes_at}
use Rattle.change_list.proofs.PruneLemmas.{pruned_kept, next_dead_is, map_filter}
use Rattle.rooms_val.proofs.Truths.{filter_shorter}
use Rattle.change_list.proofs.change_list.ChangeList.prune.Goals as goal

pub clock_at-self-inside-requires-clause-made : goal.clock_at-self-inside-requires-clause-made
clock_at-self-inside-requires-clause-made c = λ node q.
    omega (arith, c.self.invariant.kept.sound.made c.self.inside.dead.number node q, ap length c.deref.ensures.value)

pub invariant_of-self : goal.invariant_of-self
invariant_of-self c =
    let fits : SFits w64 c.clock_at-self-inside.result = search rules in
    let clock = to_z-of_z w64 c.clock_at-self-inside.result fits in
    let freed = rw (clock, clock, c.deref-2.ensures.value) at c.free_up_to.ensures.freed in
    let items = rw (clock, clock, c.deref-3.ensures.value) at c.forget_up_to.ensures.items in
    record {
      live_is = c.self.invariant.live_is;
      dead_is = c.self.invariant.dead_is;
      free_is = c.self.invariant.free_is;
      count_is = c.free_up_to.ensures.made ∙ c.self.invariant.count_is;
      kept = rw items (pruned_kept _ _ _ _ c.clock_at-self-inside.result _ _ c.self.invariant.kept freed);
    }

pub returns-clause-dead : goal.returns-clause-dead
returns-clause-dead c =
    let fits : SFits w64 c.clock_at-self-inside.result = search rules in
    let clock = to_z-of_z w64 c.clock_at-self-inside.result fits in
    let freed = rw (clock, clock, c.deref-2.ensures.value) at c.free_up_to.ensures.freed in
    let entries = c.self.inside.entries.items in
    let nodes = list_at c.self.inside.links.lists 1 in
    let counted = c.self.invariant.kept.counted ∙ sym (length-map nodes (entry_at entries)) in
    let more : nat_lt most_dead (length (changes_at entries nodes)) ≡ true = lt-ltb most_dead (length (changes_at entries nodes)) (omega (arith, c.if-self-le-MOST_DEAD.false, counted)) in
    let found = rw (c.deref.ensures.value, c.self.invariant.dead_is) at c.clock_at-self-inside.ensures in
    let place = ap (λ m. (get_or (changes_at entries nodes) (m - kept_dead - 1) blank).clock) counted in
    rw (← c.self.view_is) (ap (changes_at entries) freed.dead ∙ map_filter entries (is_after c.clock_at-self-inside.result) nodes ∙ next_dead_is most_dead kept_dead c.self.inside.start c.clock_at-self-inside.result (changes_at entries nodes) more (found ∙ place))

pub returns-clause-spare : goal.returns-clause-spare
returns-clause-spare c =
    let shorter : length c.forget_up_to.new.order.items ≤ length c.self.inside.order.items = rw c.forget_up_to.ensures.items (filter_shorter _ _) in
    omega (arith, ap (λ s. s.spare) c.self.view_is, c.free_up_to.ensures.spare, c.forget_up_to.ensures.room, shorter)
