use Rattle.doc_model.proofs.MergeLemmas.{at-merge, rising-merge}
use Rattle.doc_model.proofs.merging.merges_by_id.Goals as goal

pub returns-clause-at_id : goal.returns-clause-at_id
returns-clause-at_id c = at-merge

pub returns-clause-rising : goal.returns-clause-rising
returns-clause-rising c = rising-merge
