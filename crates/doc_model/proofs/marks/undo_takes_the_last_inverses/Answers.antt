use Rattle.doc_model.proofs.MarkLemmas.{undo_diff-append, after_undo-append}
use Rattle.doc_model.proofs.marks.undo_takes_the_last_inverses.Goals as goal

pub returns-clause-does : goal.returns-clause-does
returns-clause-does c = undo_diff-append

pub returns-clause-leaves : goal.returns-clause-leaves
returns-clause-leaves c = after_undo-append
