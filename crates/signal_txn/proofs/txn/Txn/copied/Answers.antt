use Rattle.std.proofs.Common.{◌≡◌, sym, subst}
use Rattle.std.specs.Prelude.{reverse, IfOk}
use Rattle.signal_values.specs.Seen.{IsFreshIn, value_in}
use Rattle.signal_txn.specs.Seen.{Seen, IsGotIn}
use Rattle.signal_txn.specs.Undo.{AreUndoable}
use Rattle.signal_txn.proofs.TxnLemmas.{seen_of, got_in, got_undoable}
use Rattle.signal_txn.proofs.txn.Txn.copied.Goals as goal

pub invariant_of-self : goal.invariant_of-self
invariant_of-self g c =
    let m = g.R.Rules.meaning c.self.inside.graph.values.rules in
    subst (λ (r : g.row.R.Denot). AreUndoable (g.R.Rules.meaning r) g.R.Key.Ord.cmp c.copied.new.self.values (reverse c.self.inside.levels.items)) (sym c.copied.ensures.got.rules)
    (got_undoable m g.R.Key.Ord.cmp c.self.inside.graph c.copied.new.self c.self.inside.levels.items c.copied.ensures.got c.self.invariant)

pub returns-clause-got : goal.returns-clause-got
returns-clause-got g c =
    subst (λ (s : Seen g.row.R.Denot g.row.R-Key.Denot g.row.R-Value.Denot). IsGotIn (g.R.Rules.meaning s.graph.values.rules) g.R.Key.Ord.cmp s (seen_of c.copied.new.self c.self.inside.levels.items c.self.inside.ring)) c.self.view_is
    (got_in (g.R.Rules.meaning c.self.inside.graph.values.rules) g.R.Key.Ord.cmp c.self.inside.graph c.copied.new.self c.self.inside.levels.items c.self.inside.ring c.copied.ensures.got c.copied.ensures.watches)

pub returns-clause-value : goal.returns-clause-value
returns-clause-value g c =
    subst (λ (s : Seen g.row.R.Denot g.row.R-Key.Denot g.row.R-Value.Denot). IfOk c.copied.result (λ v. v ≡ value_in (g.R.Rules.meaning s.graph.values.rules) g.R.Key.Ord.cmp s.graph.values c.args.key.now)) c.self.view_is c.copied.ensures.value

pub returns-clause-fresh : goal.returns-clause-fresh
returns-clause-fresh g c = c.copied.ensures.fresh

pub returns-clause-free : goal.returns-clause-free
returns-clause-free g c = λ h. c.copied.ensures.free (subst (λ (s : Seen g.row.R.Denot g.row.R-Key.Denot g.row.R-Value.Denot). IsFreshIn s.graph.values c.args.key.now) (sym c.self.view_is) h)
