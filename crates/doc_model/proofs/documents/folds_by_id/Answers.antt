use Rattle.doc_model.proofs.MergeLemmas.{at-fold_raw}
use Rattle.doc_model.proofs.documents.folds_by_id.Goals as goal

pub returns : goal.returns
returns c = λ document diff id rising. at-fold_raw diff document id rising
