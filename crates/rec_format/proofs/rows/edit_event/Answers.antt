use Rattle.std.proofs.Common.{arith}
use Rattle.std.proofs.lemmas.Grind.{common_steps}
use Rattle.field_ops.specs.WireRecordOps.{diff_data}
use Rattle.rec_format.proofs.RefusalLemmas.{ill_formed, passed_on}
use Rattle.rec_format.proofs.rows.edit_event.Goals as goal

pub returns-in_err-client-clause-refused : goal.returns-in_err-client-clause-refused
returns-in_err-client-clause-refused c =
    ill_formed c.from_residual-in_err-client.result c.from_residual-in_err-client.ensures.1 (λ n diff sound is. c.in_err-client.ensures.only n (grind (arith, common_steps)))

pub returns-in_err-val_in-clause-refused : goal.returns-in_err-val_in-clause-refused
returns-in_err-val_in-clause-refused c =
    ill_formed c.from_residual-in_err-val_in.result c.from_residual-in_err-val_in.ensures.1 (λ n diff sound is. c.in_err-val_in.ensures.only (diff_data diff) (grind (arith, common_steps)))

pub returns-in_err-diff-clause-refused : goal.returns-in_err-diff-clause-refused
returns-in_err-diff-clause-refused c =
    passed_on c.from_residual-in_err-diff.result c.in_err-diff.field-0.0 c.from_residual-in_err-diff.ensures.1
    (λ none n diff sound is. none diff sound (grind (arith, common_steps))) c.in_err-diff.ensures.refused
