use Rattle.rooms_val.specs.View.{data_of}
use Rattle.wire_msgs.proofs.PartLemmas.{diff_is, no_diff}
use Rattle.rooms_val.proofs.RefusalLemmas.{passed_on}
use Rattle.wire_msgs.proofs.parts.diff_of.Goals as goal

pub returns-in_err-diff-clause-refused : goal.returns-in_err-diff-clause-refused
returns-in_err-diff-clause-refused c =
    passed_on c.from_residual.result c.in_err-diff.field-0.0 c.from_residual.ensures.1 (λ none. none) (no_diff (data_of c.args.val.now) c.in_err-diff.field-0.0 c.in_err-diff.ensures)

pub returns-clause-found : goal.returns-clause-found
returns-clause-found c = (diff_is (data_of c.args.val.now) c.in_ok-diff.diff c.kind.ensures.sound c.in_ok-diff.ensures, c.len.ensures.sound)
