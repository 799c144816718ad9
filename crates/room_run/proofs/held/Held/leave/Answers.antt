use Rattle.std.proofs.Common.{rules, ◌≡◌, ℕ, ◌+◌, ◌-◌, ◌<◌, ◌≤◌, length, sym, ap, subst, ◌∙◌, arith}
use Rattle.room_model.specs.Rooms.{after_leave}
use Rattle.room_run.specs.Held.{IsInside}
use Rattle.room_run.specs.declared.views.Story.{Story}
use Rattle.room_run.proofs.HeldLemmas.{there, someone, left}
use Rattle.sync_room.specs.Standing.{Leaves}
use Rattle.room_run.proofs.held.Held.leave.Goals as goal

pub session_in-session-requires : goal.session_in-session-requires
session_in-session-requires c =
    let is = subst (λ (s : Story). IsInside c.args.number s.pen) (sym c.self.view_is) c.requires.inside in
    let here = there _ _ _ _ _ _ c.self.invariant c.args.number is in
    record { there = (_, here.0, c.self.invariant.stands, here.1) }

pub push_reserved-requires : goal.push_reserved-requires
push_reserved-requires c =
    let is = subst (λ (s : Story). IsInside c.args.number s.pen) (sym c.self.view_is) c.requires.inside in
    let one = someone _ _ _ _ _ _ c.self.invariant c.args.number is in
    let fits = c.self.invariant.place in
    search rules

pub overflow_sub-self : goal.overflow_sub-self
overflow_sub-self c =
    let is = subst (λ (s : Story). IsInside c.args.number s.pen) (sym c.self.view_is) c.requires.inside in
    let one = someone _ _ _ _ _ _ c.self.invariant c.args.number is in
    search rules

pub invariant_of-self : goal.invariant_of-self
invariant_of-self c =
    let is = subst (λ (s : Story). IsInside c.args.number s.pen) (sym c.self.view_is) c.requires.inside in
    let one = someone _ _ _ _ _ _ c.self.invariant c.args.number is in
    rw (c.push_reserved.ensures.items, c.push_reserved.ensures.capacity)
    (left _ _ _ _ _ _ c.self.invariant c.leave.new.self c.args.number c.session_in-session.result.number (c.self.inside.inside - 1)
    is c.session_in-session.ensures.number c.leave.ensures.left c.leave.ensures.schema (omega (arith, one)))
