use Rattle.std.proofs.Common.{rules}
use Rattle.shared_board.proofs.board.Board.clock.Goals as goal

pub returns : goal.returns
returns c = λ schemas state stands. let is = c.clock.ensures state.room (c.room.ensures.stands schemas state stands.world) in search rules
