use Rattle.std.proofs.Common.{sym, subst}
use Rattle.std.specs.Prelude.{reverse}
use Rattle.signal_values.specs.Seen as values
use Rattle.signal_txn.specs.Undo.{AreUndoable}
use Rattle.signal_txn.proofs.txn.Txn.watch.Goals as goal

pub invariant_of-self : goal.invariant_of-self
invariant_of-self g c =
    subst (λ (vs : values.Seen g.row.R.Denot g.row.R-Key.Denot g.row.R-Value.Denot). AreUndoable (g.R.Rules.meaning vs.rules) g.R.Key.Ord.cmp vs (reverse c.self.inside.levels.items)) (sym c.watch.ensures.values) c.self.invariant
