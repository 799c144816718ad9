use Rattle.std.proofs.Common.{pos}
use Rattle.rooms_val.specs.Data.{whole}
use Rattle.rooms_val.proofs.Truths.{any_err}
use Rattle.rec_format.proofs.entries.number_in.Goals as goal

pub returns-in_err-number-clause-only : goal.returns-in_err-number-clause-only
returns-in_err-number-clause-only c = any_err c.from_residual.result (λ n is. c.in_err-number.ensures.only (whole (pos n)) is)
