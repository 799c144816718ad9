use Rattle.wire_msgs.specs.Messages.{hydration_word}
use Rattle.rooms_val.proofs.Truths.{any_err}
use Rattle.wire_msgs.proofs.entries.hydration_in.Goals as goal

pub returns-in_err-text_in-clause-only : goal.returns-in_err-text_in-clause-only
returns-in_err-text_in-clause-only c = any_err c.from_residual.result (λ h is. c.in_err-text_in.ensures.only (hydration_word h) is)
