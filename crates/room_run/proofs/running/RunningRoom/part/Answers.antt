use Rattle.std.proofs.Common.{inl, refl}
use Rattle.room_events.specs.declared.room_event.RoomEvent.TheVariants.{Leave}
use Rattle.room_run.proofs.TurnLemmas.{all_after}
use Rattle.room_run.proofs.running.RunningRoom.part.Goals as goal

pub append-requires-clause-turn : goal.append-requires-clause-turn
append-requires-clause-turn c = (c.args.held, Leave c.args.number, c.requires.ready.0, c.leave.ensures, inl c.requires.ready.1.session)

pub returns-clause-all : goal.returns-clause-all
returns-clause-all c =
    all_after c.args.number c.args.seat.now.me c.append.new.seat.me c.args.held c.leave.new.self (Leave c.args.number) c.requires.ready c.leave.ensures refl c.append.ensures.added
