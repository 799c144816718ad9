use Rattle.doc_model.proofs.InverseLemmas.{at-step}
use Rattle.doc_model.proofs.inverses.steps_by_id.Goals as goal

pub returns : goal.returns
returns c = λ admits document diff id rising. at-step admits diff document id rising
