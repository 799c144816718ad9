use Rattle.doc_model.proofs.RestoreLemmas.{bail_restores}
use Rattle.doc_model.proofs.restoring.bails_restore.Goals as goal

pub returns : goal.returns
returns c = bail_restores
