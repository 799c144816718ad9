use Rattle.std.proofs.Common.{arith}
use Rattle.std.proofs.lemmas.Grind.{common_steps}
use Rattle.view_vals.specs.Queries.{query_data}
use Rattle.rec_format.proofs.RefusalLemmas.{ill_formed, of_value}
use Rattle.rec_format.proofs.rows.query_event.Goals as goal

pub returns-in_err-client-clause-refused : goal.returns-in_err-client-clause-refused
returns-in_err-client-clause-refused c =
    ill_formed c.from_residual-in_err-client.result c.from_residual-in_err-client.ensures.1 (λ n type query is. c.in_err-client.ensures.only n (grind (arith, common_steps)))

pub returns-in_err-text_in-clause-refused : goal.returns-in_err-text_in-clause-refused
returns-in_err-text_in-clause-refused c =
    ill_formed c.from_residual-in_err-text_in.result c.from_residual-in_err-text_in.ensures.1 (λ n type query is. c.in_err-text_in.ensures.only type (grind (arith, common_steps)))

pub returns-in_err-val_in-clause-refused : goal.returns-in_err-val_in-clause-refused
returns-in_err-val_in-clause-refused c =
    ill_formed c.from_residual-in_err-val_in.result c.from_residual-in_err-val_in.ensures.1 (λ n type query is. c.in_err-val_in.ensures.only (query_data query) (grind (arith, common_steps)))

pub returns-in_err-where_-clause-refused : goal.returns-in_err-where_-clause-refused
returns-in_err-where_-clause-refused c =
    of_value c.from_residual-in_err-where_.result c.in_err-where_.field-0.0 c.from_residual-in_err-where_.ensures.1
    (λ none n type query is. none query (grind (arith, common_steps))) c.in_err-where_.ensures.refused
