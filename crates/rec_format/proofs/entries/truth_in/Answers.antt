use Rattle.rooms_val.specs.Data.{boolean}
use Rattle.rooms_val.proofs.Truths.{any_err}
use Rattle.rec_format.proofs.entries.truth_in.Goals as goal

pub returns-in_err-truth-clause-only : goal.returns-in_err-truth-clause-only
returns-in_err-truth-clause-only c = any_err c.from_residual.result (λ b is. c.in_err-truth.ensures.only (boolean b) is)
