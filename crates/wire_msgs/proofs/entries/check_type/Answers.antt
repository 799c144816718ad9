use Rattle.rooms_val.proofs.Truths.{any_err}
use Rattle.wire_msgs.proofs.entries.check_type.Goals as goal

pub returns-in_err-text_in-clause-only : goal.returns-in_err-text_in-clause-only
returns-in_err-text_in-clause-only c = any_err c.from_residual.result (λ is. c.in_err-text_in.ensures.only c.args.word.now is)
