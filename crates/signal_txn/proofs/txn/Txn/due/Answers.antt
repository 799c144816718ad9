use Rattle.std.proofs.Common.{◌≡◌, [], List, sym, subst}
use Rattle.std.specs.Prelude.{reverse, IfOk, OnOk, OnErr}
use Rattle.signal_core.specs.Due.{AreDue, AreTold, AreFreshKeys, AreFreshIn}
use Rattle.signal_core.specs.Gots.{AreGot}
use Rattle.signal_txn.specs.Level.{Level}
use Rattle.signal_txn.specs.Seen.{Seen}
use Rattle.signal_txn.specs.Undo.{AreUndoable}
use Rattle.signal_txn.proofs.txn.Txn.due.Goals as goal

pub invariant_of-self : goal.invariant_of-self
invariant_of-self g c =
    let none : reverse c.self.inside.levels.items ≡ [] = subst (λ (s : Seen g.row.R.Denot g.row.R-Key.Denot g.row.R-Value.Denot). s.journal.levels ≡ []) (sym c.self.view_is) c.requires in
    subst (λ (ls : List (Level g.row.R-Key.Denot g.row.R-Value.Denot)). AreUndoable (g.R.Rules.meaning c.due.new.self.values.rules) g.R.Key.Ord.cmp c.due.new.self.values ls) (sym none) tt

pub returns-clause-due : goal.returns-clause-due
returns-clause-due g c =
    subst (λ (s : Seen g.row.R.Denot g.row.R-Key.Denot g.row.R-Value.Denot). IfOk c.due.result (λ due. AreDue (g.R.Rules.meaning s.graph.values.rules) g.R.Key.Ord.cmp s.graph due.items)) c.self.view_is c.due.ensures.due

pub returns-clause-told : goal.returns-clause-told
returns-clause-told g c =
    subst (λ (s : Seen g.row.R.Denot g.row.R-Key.Denot g.row.R-Value.Denot). OnOk c.due.result (AreTold (g.R.Rules.meaning s.graph.values.rules) g.R.Key.Ord.cmp s.graph c.due.new.self.watches)) c.self.view_is c.due.ensures.told

pub returns-clause-err : goal.returns-clause-err
returns-clause-err g c = subst (λ (s : Seen g.row.R.Denot g.row.R-Key.Denot g.row.R-Value.Denot). OnErr c.due.result (c.due.new.self.watches ≡ s.graph.watches)) c.self.view_is c.due.ensures.err

pub returns-clause-got : goal.returns-clause-got
returns-clause-got g c =
    subst (λ (s : Seen g.row.R.Denot g.row.R-Key.Denot g.row.R-Value.Denot). AreGot (g.R.Rules.meaning s.graph.values.rules) g.R.Key.Ord.cmp s.graph.values c.due.new.self.values) c.self.view_is c.due.ensures.got

pub returns-clause-fresh : goal.returns-clause-fresh
returns-clause-fresh g c = subst (λ (s : Seen g.row.R.Denot g.row.R-Key.Denot g.row.R-Value.Denot). OnOk c.due.result (AreFreshKeys s.graph.watches c.due.new.self.values)) c.self.view_is c.due.ensures.fresh

pub returns-clause-free : goal.returns-clause-free
returns-clause-free g c = λ h. c.due.ensures.free (subst (λ (s : Seen g.row.R.Denot g.row.R-Key.Denot g.row.R-Value.Denot). AreFreshIn s.graph.watches s.graph.values) (sym c.self.view_is) h)
