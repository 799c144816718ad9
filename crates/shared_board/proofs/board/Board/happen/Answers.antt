use Rattle.std.proofs.Common.{false}
use Rattle.room_model.specs.Worlds.{after_event}
use Rattle.shared_board.proofs.RefusalLemmas.{refused}
use Rattle.shared_board.proofs.StepLemmas.{stands_after}
use Rattle.shared_board.proofs.board.Board.happen.Goals as goal

pub returns-in-Ok : goal.returns-in-Ok
returns-in-Ok c = λ schemas state stands.
    let steps = c.in-Ok.ensures schemas state stands.world in
    (steps.0, steps.1, steps.2, stands_after schemas state c.args.self.now stands c.args.event steps.0 c.step.new.world c.requires.apart steps.1 steps.3)

pub returns-in-Err : goal.returns-in-Err
returns-in-Err c = λ schemas state stands other.
    refused schemas state (after_event schemas false state c.args.event) c.in-Err.why c.fault_of.result c.args.self.now c.step.new.world
    c.fault_of.ensures other stands (c.in-Err.ensures schemas state stands.world)
