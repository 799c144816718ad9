use Rattle.doc_model.proofs.RestoreLemmas.{undo_is_bail}
use Rattle.doc_model.proofs.restoring.undo_does_what_bail_does.Goals as goal

pub returns : goal.returns
returns c = undo_is_bail
