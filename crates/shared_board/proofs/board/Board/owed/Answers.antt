use Rattle.std.proofs.Common.{refl}
use Rattle.sync_world.specs.States.{client_state}
use Rattle.shared_board.proofs.board.Board.owed.Goals as goal

pub returns-in-Some : goal.returns-in-Some
returns-in-Some c = λ schemas state stands.
    let one = c.in-Some.ensures.found schemas state stands in
    (one.0, one.1, c.owed.ensures schemas (client_state schemas state.room.history one.0) one.2)

pub returns-in-None : goal.returns-in-None
returns-in-None c = λ schemas state stands other. (refl, c.in-None.ensures.none schemas state stands)
