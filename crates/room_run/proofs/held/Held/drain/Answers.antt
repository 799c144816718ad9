use Rattle.std.proofs.Common.{rules, ◌≡◌, ℕ, ◌+◌, ◌≤◌, length, Option, sym, ap, subst, ◌∙◌, arith}
use Rattle.room_model.specs.Rooms as model
use Rattle.room_model.specs.Rooms.{next_for}
use Rattle.room_schemas.specs.Decided.{decided}
use Rattle.sync_msgs.specs.declared.out.Out.{Out}
use Rattle.sync_room.specs.Standing.{Stands, Drains, tree_of}
use Rattle.room_run.specs.Held.{IsInside}
use Rattle.room_run.specs.declared.views.Story.{Story}
use Rattle.room_run.proofs.HeldLemmas.{there, given, stays_drained}
use Rattle.room_run.proofs.held.Held.drain.Goals as goal

pub session_in-session-requires : goal.session_in-session-requires
session_in-session-requires c =
    let is = subst (λ (s : Story). IsInside c.args.number s.pen) (sym c.self.view_is) c.requires.inside in
    let here = there _ _ _ _ _ _ c.self.invariant c.args.number is in
    record { there = (_, here.0, c.self.invariant.stands, here.1) }

pub invariant_of-self-in-None : goal.invariant_of-self-in-None
invariant_of-self-in-None c =
    rw c.reserve.ensures.items
    (stays_drained _ _ _ _ _ _ c.self.invariant c.drain.new.room c.args.number c.session_in-session.result.number _
    c.session_in-session.ensures.number
    (subst (λ (o : Option Out). (s : model.Room) → Stands s c.self.inside.room
    → Drains s c.session_in-session.result.number (next_for (decided (tree_of c.self.inside.room)) s c.session_in-session.result.number) o c.drain.new.room) c.in-None.is c.in_ok-drain.ensures.step)
    c.drain.ensures.schema (search rules))

pub invariant_of-self-in-Some : goal.invariant_of-self-in-Some
invariant_of-self-in-Some c =
    let is = subst (λ (s : Story). IsInside c.args.number s.pen) (sym c.self.view_is) c.requires.inside in
    rw (c.push_reserved.ensures.items, c.push_reserved.ensures.capacity, c.reserve.ensures.items)
    (given _ _ _ _ _ _ c.self.invariant c.drain.new.room c.args.number c.session_in-session.result.number c.in-Some.out _
    is c.session_in-session.ensures.number
    (subst (λ (o : Option Out). (s : model.Room) → Stands s c.self.inside.room
    → Drains s c.session_in-session.result.number (next_for (decided (tree_of c.self.inside.room)) s c.session_in-session.result.number) o c.drain.new.room) c.in-Some.is c.in_ok-drain.ensures.step)
    c.drain.ensures.schema (search rules))
