use Rattle.rooms_val.proofs.Truths.{any_err}
use Rattle.rec_format.proofs.clips.prefix_in.Goals as goal

pub returns-in_err-prefix-clause-only : goal.returns-in_err-prefix-clause-only
returns-in_err-prefix-clause-only c = any_err c.from_residual.result (λ t fit is. c.in_err-prefix.ensures.only t is)
