use Rattle.doc_model.proofs.MarkLemmas.{undo_diff-marks}
use Rattle.doc_model.proofs.marks.marks_alone_undo_nothing.Goals as goal

pub returns : goal.returns
returns c = undo_diff-marks
