use Rattle.std.proofs.Common.{arith}
use Rattle.std.proofs.lemmas.Grind.{common_steps}
use Rattle.rooms_val.proofs.Truths.{any_err}
use Rattle.rec_format.proofs.rows.session_of.Goals as goal

pub returns-in_err-number_in-clause-only : goal.returns-in_err-number_in-clause-only
returns-in_err-number_in-clause-only c = any_err c.from_residual-in_err-number_in.result (λ n is. c.in_err-number_in.ensures.only n (grind (arith, common_steps)))
