use Rattle.rooms_val.proofs.Truths.{any_err}
use Rattle.rec_format.proofs.clips.parent_in.Goals as goal

pub returns-in_err-id-clause-only : goal.returns-in_err-id-clause-only
returns-in_err-id-clause-only c = any_err c.from_residual.result (λ t fit is. c.in_err-id.ensures.only t is)
