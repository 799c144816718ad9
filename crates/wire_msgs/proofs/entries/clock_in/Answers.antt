use Rattle.rooms_val.proofs.Truths.{any_err}
use Rattle.wire_msgs.proofs.entries.clock_in.Goals as goal

pub returns-in_err-clock-clause-only : goal.returns-in_err-clock-clause-only
returns-in_err-clock-clause-only c = any_err c.from_residual.result (λ z clock is. c.in_err-clock.ensures.only z is)
