use Rattle.std.proofs.Common.{length, ap, arith, w64}
use Rattle.std.proofs.lemmas.Int.{to_z-of_z}
use Rattle.change_list.proofs.SinceLemmas.{since_same, since_counted}
use Rattle.change_list.proofs.change_list.ChangeList.since.Goals as goal

pub gather-requires-2-clause-made : goal.gather-requires-2-clause-made
gather-requires-2-clause-made g c = λ node q.
    omega (arith, c.self.invariant.kept.sound.made c.self.inside.dead.number node q, ap length c.deref-2.ensures.value)

pub returns-clause-ok : goal.returns-clause-ok
returns-clause-ok g c =
    let fits = to_z-of_z w64 c.args.clock c.ranges.clock in
    let one = rw (fits, c.self.invariant.live_is, c.deref.ensures.value, c.new-found.ensures.items) at c.in_ok-gather.ensures.ok in
    let two = rw (fits, c.self.invariant.dead_is, c.deref-2.ensures.value) at c.in_ok-gather-2.ensures.ok in
    rw (← c.self.view_is) (record { same = since_same _ _ _ _ _ c.args.clock one two c.in_ok-sort.ensures.same; rising = c.in_ok-sort.ensures.rising })

pub returns-clause-ticked : goal.returns-clause-ticked
returns-clause-ticked g c =
    let fits = to_z-of_z w64 c.args.clock c.ranges.clock in
    let one = rw (fits, c.self.invariant.live_is, c.deref.ensures.value, c.new-found.ensures.items) at c.in_ok-gather.ensures.ok in
    let two = rw (fits, c.self.invariant.dead_is, c.deref-2.ensures.value) at c.in_ok-gather-2.ensures.ok in
    let ticks_one = rw (fits, c.self.invariant.live_is, c.deref.ensures.value, c.tick.ensures) at c.in_ok-gather.ensures.ticked in
    let ticks_two = rw (fits, c.self.invariant.dead_is, c.deref-2.ensures.value) at c.in_ok-gather-2.ensures.ticked in
    since_counted _ _ _ _ _ c.args.clock one two c.in_ok-sort.ensures.same _ _ _ ticks_one ticks_two
