use Rattle.std.proofs.Common.{rules, ◌≡◌, ℕ, ◌+◌, ◌≤◌, length, sym, ap, subst, ◌∙◌, arith}
use Rattle.room_run.specs.Held.{IsInside}
use Rattle.room_run.specs.declared.views.Story.{Story}
use Rattle.room_run.proofs.HeldLemmas.{there, said}
use Rattle.room_run.proofs.held.Held.handle.Goals as goal

pub session_in-session-requires : goal.session_in-session-requires
session_in-session-requires c =
    let is = subst (λ (s : Story). IsInside c.args.number s.pen) (sym c.self.view_is) c.requires.inside in
    let here = there _ _ _ _ _ _ c.self.invariant c.args.number is in
    record { there = (_, here.0, c.self.invariant.stands, here.1) }

pub invariant_of-self-2 : goal.invariant_of-self-2
invariant_of-self-2 c =
    rw (c.push_reserved.ensures.items, c.push_reserved.ensures.capacity, c.reserve.ensures.items, c.in_ok-said.ensures)
    (said _ _ _ _ _ _ c.self.invariant c.handle.new.room c.args.number c.session_in-session.result.number c.args.message.now c.in_ok-reply.reply _
    c.session_in-session.ensures.number c.handle.ensures.rises c.in_ok-reply.ensures.step c.handle.ensures.schema (search rules))
