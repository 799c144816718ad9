use Rattle.doc_model.proofs.MarkLemmas.{bail_diff-append, after_bail-append}
use Rattle.doc_model.proofs.marks.bail_goes_back_to_the_mark.Goals as goal

pub returns-clause-does : goal.returns-clause-does
returns-clause-does c = bail_diff-append

pub returns-clause-leaves : goal.returns-clause-leaves
returns-clause-leaves c = after_bail-append
