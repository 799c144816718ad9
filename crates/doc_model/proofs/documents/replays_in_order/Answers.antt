use Rattle.doc_model.proofs.ReplayLemmas.{replay-push}
use Rattle.doc_model.proofs.documents.replays_in_order.Goals as goal

pub returns : goal.returns
returns c = replay-push
