use Rattle.std.proofs.Common.{arith}
use Rattle.std.proofs.lemmas.Grind.{common_steps}
use Rattle.rooms_val.proofs.Truths.{any_err}
use Rattle.rec_format.proofs.rows.connect_event.Goals as goal

pub returns-in_err-client-clause-only : goal.returns-in_err-client-clause-only
returns-in_err-client-clause-only c = any_err c.from_residual-in_err-client.result (λ n readonly is. c.in_err-client.ensures.only n (grind (arith, common_steps)))

pub returns-in_err-readonly-clause-only : goal.returns-in_err-readonly-clause-only
returns-in_err-readonly-clause-only c = any_err c.from_residual-in_err-readonly.result (λ n readonly is. c.in_err-readonly.ensures.only readonly (grind (arith, common_steps)))
