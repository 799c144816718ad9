use Rattle.std.proofs.Common.{arith}
use Rattle.std.proofs.lemmas.Grind.{common_steps}
use Rattle.view_vals.specs.Views.{view_data}
use Rattle.rec_format.proofs.RefusalLemmas.{ill_formed}
use Rattle.rec_format.proofs.rows.watch_event.Goals as goal

pub returns-in_err-client-clause-refused : goal.returns-in_err-client-clause-refused
returns-in_err-client-clause-refused c =
    ill_formed c.from_residual-in_err-client.result c.from_residual-in_err-client.ensures.1 (λ n view is. c.in_err-client.ensures.only n (grind (arith, common_steps)))

pub returns-in_err-val_in-clause-refused : goal.returns-in_err-val_in-clause-refused
returns-in_err-val_in-clause-refused c =
    ill_formed c.from_residual-in_err-val_in.result c.from_residual-in_err-val_in.ensures.1 (λ n view is. c.in_err-val_in.ensures.only (view_data view) (grind (arith, common_steps)))
