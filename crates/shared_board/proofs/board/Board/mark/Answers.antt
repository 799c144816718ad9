use Rattle.std.proofs.Common.{refl, subst}
use Rattle.room_model.specs.declared.event.Event.TheVariants as event
use Rattle.shared_board.specs.Calls.{Happens}
use Rattle.shared_board.proofs.board.Board.mark.Goals as goal

pub returns-in-Ok : goal.returns-in-Ok
returns-in-Ok c = λ schemas state stands.
    subst (λ name. Happens schemas state (event.Mark c.args.client.number name) c.act.result c.act.new.self) c.in-Ok.ensures (c.act.ensures schemas state stands)

pub returns-in-Err : goal.returns-in-Err
returns-in-Err c = λ schemas state stands other. absurd (other refl)
