use Rattle.shared_board.proofs.board.Board.act.Goals as goal

pub returns-in-Ok : goal.returns-in-Ok
returns-in-Ok c = λ schemas state stands. let done = c.in-Ok.ensures schemas state stands in (done.0, done.1, tt, done.3)
