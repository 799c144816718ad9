use Rattle.doc_model.proofs.RestoreLemmas.{mark_restores, other_keeps, edit_keeps}
use Rattle.doc_model.proofs.restoring.marks_restore.Goals as goal

pub returns-clause-made : goal.returns-clause-made
returns-clause-made c = mark_restores

pub returns-clause-others : goal.returns-clause-others
returns-clause-others c = other_keeps

pub returns-clause-edits : goal.returns-clause-edits
returns-clause-edits c = edit_keeps
