use Rattle.std.proofs.Common.{false}
use Rattle.room_model.specs.Worlds.{after_event}
use Rattle.shared_board.proofs.MoveLemmas.{moving_apart, moving_played}
use Rattle.shared_board.proofs.RefusalLemmas.{world_stays}
use Rattle.shared_board.proofs.StepLemmas.{stands_after}
use Rattle.shared_board.proofs.board.Board.attempt.Goals as goal

pub returns-in-Ok : goal.returns-in-Ok
returns-in-Ok c = λ schemas state stands.
    let steps = c.in-Ok.ensures schemas state stands.world in
    (steps.0, steps.1, stands_after schemas state c.args.self.now stands c.args.event steps.0 c.step.new.world (moving_apart c.args.event c.requires) steps.1 steps.3)

pub returns : goal.returns
returns c = λ schemas state stands.
    let kept = world_stays schemas state (after_event schemas false state c.args.event) c.in-Err.why c.step.new.world c.in_ok-unless_spent-in-Err.ensures (c.in-Err.ensures schemas state stands.world) in
    ((c.in-Err.why, kept.0), record { world = kept.1; entered = stands.entered })

pub step-requires : goal.step-requires
step-requires c = moving_played c.args.event c.requires
