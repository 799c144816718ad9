use Rattle.std.proofs.Common.{List, sym, subst}
use Rattle.std.specs.Prelude.{reverse}
use Rattle.signal_txn.specs.Level.{Level}
use Rattle.signal_txn.specs.Undo.{AreUndoable}
use Rattle.signal_txn.proofs.UndoLemmas.{undoable_unwritten}
use Rattle.signal_txn.proofs.txn.Txn.begin.Goals as goal

pub invariant_of-self-2 : goal.invariant_of-self-2
invariant_of-self-2 g c =
    let m = g.R.Rules.meaning c.self.inside.graph.values.rules in
    subst (λ (ls : List (Level g.row.R-Key.Denot g.row.R-Value.Denot)). AreUndoable m g.R.Key.Ord.cmp c.self.inside.graph.values ls) (sym c.in_ok-begin.ensures.ok)
    (undoable_unwritten m g.R.Key.Ord.cmp c.self.inside.graph.values (reverse c.self.inside.levels.items) c.self.invariant)
