use Rattle.std.proofs.Common.{refl, ap, ◌∙◌}
use Rattle.room_model.specs.Worlds.{map_val}
use Rattle.sync_world.specs.States.{client_state}
use Rattle.sync_world.proofs.ShowLemmas.{shown_is}
use Rattle.shared_board.proofs.board.Board.document.Goals as goal

pub returns-in-Ok : goal.returns-in-Ok
returns-in-Ok c = λ schemas state stands.
    let one = c.in-Some.ensures.found schemas state stands in
    let shows = c.in-Ok.ensures schemas (client_state schemas state.room.history one.0) one.2 in
    (one.0, one.1, shows ∙ ap map_val (shown_is schemas state c.args.self.now.world.live stands.world.keeps c.args.client.number one.0 one.1))

pub returns-in-None : goal.returns-in-None
returns-in-None c = λ schemas state stands other. (refl, c.in-None.ensures.none schemas state stands)

pub returns-in-Err : goal.returns-in-Err
returns-in-Err c = λ schemas state stands other. absurd (other refl)
