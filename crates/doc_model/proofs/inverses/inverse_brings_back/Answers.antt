use Rattle.doc_model.proofs.InverseLemmas.{step-inverse_diff}
use Rattle.doc_model.proofs.inverses.inverse_brings_back.Goals as goal

pub returns : goal.returns
returns c = step-inverse_diff
