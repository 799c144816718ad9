use Rattle.wire_msgs.proofs.EventLemmas.{no_rebase}
use Rattle.rooms_val.proofs.RefusalLemmas.{passed_on}
use Rattle.wire_msgs.proofs.events.rebase_of.Goals as goal

pub returns-in_err-diff-clause-refused : goal.returns-in_err-diff-clause-refused
returns-in_err-diff-clause-refused c =
    passed_on c.from_residual.result c.in_err-diff.field-0.0 c.from_residual.ensures.1 (no_rebase c.args.fields.now) (rw c.as_slice.ensures.pairs at c.in_err-diff.ensures.refused)
