use Rattle.std.proofs.Common.{◌≡◌, length}
use Rattle.signal_txn.proofs.PutBackLemmas.{IsPutting}
use Rattle.signal_txn.proofs.noting.put_back_all.Given as goal

abbrev pub invariant-entries : goal.invariant-entries
invariant-entries g l = record {
  putting : IsPutting (g.R.Rules.meaning l.initial.graph.values.rules) g.R.Key.Ord.cmp l.initial.graph.values l.graph.values l.initial.rest.entries l.rest.entries;
  watches : l.graph.watches ≡ l.initial.graph.watches;
}

abbrev pub decreases-entries : goal.decreases-entries
decreases-entries g l = length l.rest.entries
