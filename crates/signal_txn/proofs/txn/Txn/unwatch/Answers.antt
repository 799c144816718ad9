use Rattle.std.proofs.Common.{sym, subst}
use Rattle.std.specs.Prelude.{reverse}
use Rattle.signal_values.specs.Seen as values
use Rattle.signal_core.specs.Watches.{IsWatched, DropsWatch}
use Rattle.signal_txn.specs.Seen.{Seen}
use Rattle.signal_txn.specs.Undo.{AreUndoable}
use Rattle.signal_txn.proofs.txn.Txn.unwatch.Goals as goal

pub invariant_of-self : goal.invariant_of-self
invariant_of-self g c =
    subst (λ (vs : values.Seen g.row.R.Denot g.row.R-Key.Denot g.row.R-Value.Denot). AreUndoable (g.R.Rules.meaning vs.rules) g.R.Key.Ord.cmp vs (reverse c.self.inside.levels.items)) (sym c.unwatch.ensures.values) c.self.invariant

pub unwatch-requires : goal.unwatch-requires
unwatch-requires g c = subst (λ (s : Seen g.row.R.Denot g.row.R-Key.Denot g.row.R-Value.Denot). IsWatched s.graph.watches c.args.id.number) (sym c.self.view_is) c.requires

pub returns-clause-watches : goal.returns-clause-watches
returns-clause-watches g c = subst (λ (s : Seen g.row.R.Denot g.row.R-Key.Denot g.row.R-Value.Denot). DropsWatch s.graph.watches c.unwatch.new.self.watches c.args.id.number) c.self.view_is c.unwatch.ensures.watches
