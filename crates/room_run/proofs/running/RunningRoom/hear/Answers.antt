use Rattle.std.proofs.Common.{rules, None, inl, refl, sym, ap, subst, ◌∙◌}
use Rattle.room_events.specs.declared.room_event.RoomEvent.TheVariants.{Message}
use Rattle.room_run.proofs.TurnLemmas.{ready_after}
use Rattle.room_run.proofs.running.RunningRoom.hear.Goals as goal

pub append-requires-clause-turn : goal.append-requires-clause-turn
append-requires-clause-turn c = (c.args.held, Message c.args.number c.args.message.now c.in-Ok.ensures.ok.0, c.requires.ready.0, c.in-Ok.ensures.ok.1, inl c.requires.ready.1.session)

pub returns-in-Ok-clause-ready : goal.returns-in-Ok-clause-ready
returns-in-Ok-clause-ready c =
    ready_after c.args.number c.args.seat.now.me c.append.new.seat.me c.args.held c.handle.new.self c.append.result (Message c.args.number c.args.message.now c.in-Ok.ensures.ok.0)
    c.requires.ready c.in-Ok.ensures.ok.1 refl refl c.append.ensures.turn c.append.ensures.same c.append.ensures.added
