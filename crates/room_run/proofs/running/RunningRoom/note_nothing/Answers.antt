use Rattle.std.proofs.Common.{rules, None, inl, refl, sym, ap, subst, ◌∙◌}
use Rattle.room_events.specs.declared.room_event.RoomEvent.TheVariants.{Drain}
use Rattle.room_run.proofs.TurnLemmas.{ready_after}
use Rattle.room_run.proofs.running.RunningRoom.note_nothing.Goals as goal

pub append-requires-clause-turn : goal.append-requires-clause-turn
append-requires-clause-turn c = (c.args.held, Drain c.args.number None, c.requires.ready.0, c.in-Ok.ensures.ok, inl c.requires.ready.1.session)

pub returns-in-Ok-clause-ready : goal.returns-in-Ok-clause-ready
returns-in-Ok-clause-ready c =
    ready_after c.args.number c.args.seat.now.me c.append.new.seat.me c.args.held c.note_nothing.new.self c.append.result (Drain c.args.number None)
    c.requires.ready c.in-Ok.ensures.ok refl refl c.append.ensures.turn c.append.ensures.same c.append.ensures.added
