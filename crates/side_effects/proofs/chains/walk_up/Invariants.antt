use Rattle.doc_model.specs.Documents.{fold_raw}
use Rattle.side_effects.proofs.ChainLemmas.{IsOnWay}
use Rattle.side_effects.proofs.chains.walk_up.Given as goal

abbrev pub invariant-steps : goal.invariant-steps
invariant-steps g l = IsOnWay (fold_raw (g.D.DocStore.records l.store) l.diff) l.id l._step l.next
