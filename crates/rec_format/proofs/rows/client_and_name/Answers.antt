use Rattle.std.proofs.Common.{arith}
use Rattle.std.proofs.lemmas.Grind.{common_steps}
use Rattle.rec_format.proofs.RefusalLemmas.{ill_formed}
use Rattle.rec_format.proofs.rows.client_and_name.Goals as goal

pub returns-in_err-client-clause-refused : goal.returns-in_err-client-clause-refused
returns-in_err-client-clause-refused c =
    ill_formed c.from_residual-in_err-client.result c.from_residual-in_err-client.ensures.1 (λ n name is. c.in_err-client.ensures.only n (grind (arith, common_steps)))

pub returns-in_err-name-clause-refused : goal.returns-in_err-name-clause-refused
returns-in_err-name-clause-refused c =
    ill_formed c.from_residual-in_err-name.result c.from_residual-in_err-name.ensures.1 (λ n name is. c.in_err-name.ensures.only name (grind (arith, common_steps)))
