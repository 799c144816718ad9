use Rattle.std.proofs.Common.{false}
use Rattle.room_model.specs.Worlds.{after_event}
use Rattle.room_model.specs.declared.event.Event.TheVariants as event
use Rattle.shared_board.proofs.RefusalLemmas.{refused}
use Rattle.shared_board.proofs.StepLemmas.{stands_connected}
use Rattle.shared_board.proofs.board.Board.enter.Goals as goal

pub returns-in-Ok : goal.returns-in-Ok
returns-in-Ok c = λ schemas state stands.
    let steps = c.in-Ok.ensures schemas state stands.world in
    (steps.0, steps.1, tt, stands_connected schemas state c.args.self.now stands c.args.client.number c.args.readonly steps.0 c.step.new.world c.one_more-self.result steps.1 steps.3 c.one_more-self.ensures)

pub returns : goal.returns
returns c = λ schemas state stands other.
    refused schemas state (after_event schemas false state (event.Connect c.args.client.number c.args.readonly)) c.in-Err.why c.fault_of.result c.args.self.now c.step.new.world
    c.fault_of.ensures other stands (c.in-Err.ensures schemas state stands.world)
