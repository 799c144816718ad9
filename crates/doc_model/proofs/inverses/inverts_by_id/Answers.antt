use Rattle.doc_model.proofs.InverseLemmas.{at-inverse_diff}
use Rattle.doc_model.proofs.inverses.inverts_by_id.Goals as goal

pub returns : goal.returns
returns c = at-inverse_diff
