use Rattle.std.proofs.Common.{ap, ◌∙◌}
use Rattle.shared_board.specs.Calls.{done_in}
use Rattle.shared_board.proofs.board.Board.act_if.Goals as goal

pub returns-in-Ok : goal.returns-in-Ok
returns-in-Ok c = λ schemas state stands.
    let done = c.in-Ok.ensures schemas state stands in
    (done.0, done.1, c.done_in.ensures ∙ ap done_in c.deref.ensures.value ∙ ap done_in done.2, done.3)
