use Rattle.std.proofs.Common.{arith}
use Rattle.std.proofs.lemmas.Grind.{common_steps}
use Rattle.field_ops.specs.WireRecordOps.{diff_data}
use Rattle.rooms_val.proofs.RefusalLemmas.{refused_for}
use Rattle.wire_msgs.proofs.events.rebase_in.Goals as goal

pub returns-in_err-val_in-clause-refused : goal.returns-in_err-val_in-clause-refused
returns-in_err-val_in-clause-refused c = refused_for c.from_residual.result (λ diff sound is. c.in_err-val_in.ensures.only (diff_data diff) (grind (arith, common_steps)))
