use Rattle.std.proofs.Common.{arith}
use Rattle.std.proofs.lemmas.Grind.{common_steps}
use Rattle.shape_tree.specs.Views.{ids_data}
use Rattle.rec_format.proofs.RefusalLemmas.{ill_formed, passed_on}
use Rattle.rec_format.proofs.clips.copy_event.Goals as goal

pub returns-in_err-client-clause-refused : goal.returns-in_err-client-clause-refused
returns-in_err-client-clause-refused c =
    ill_formed c.from_residual-in_err-client.result c.from_residual-in_err-client.ensures.1 (λ n ids is. c.in_err-client.ensures.only n (grind (arith, common_steps)))

pub returns-in_err-val_in-clause-refused : goal.returns-in_err-val_in-clause-refused
returns-in_err-val_in-clause-refused c =
    ill_formed c.from_residual-in_err-val_in.result c.from_residual-in_err-val_in.ensures.1 (λ n ids is. c.in_err-val_in.ensures.only (ids_data ids) (grind (arith, common_steps)))

pub returns-in_err-ids-clause-refused : goal.returns-in_err-ids-clause-refused
returns-in_err-ids-clause-refused c =
    passed_on c.from_residual-in_err-ids.result c.in_err-ids.field-0.0 c.from_residual-in_err-ids.ensures.1
    (λ none n ids is. none ids (grind (arith, common_steps))) c.in_err-ids.ensures.refused
