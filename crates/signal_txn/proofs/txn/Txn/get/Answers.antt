use Rattle.std.proofs.Common.{◌≡◌, refl, sym, subst}
use Rattle.std.specs.Prelude.{reverse, IfOk}
use Rattle.signal_values.specs.Seen.{IsFreshIn, value_in}
use Rattle.signal_txn.specs.Seen.{Seen, IsGotIn}
use Rattle.signal_txn.specs.Undo.{AreUndoable}
use Rattle.signal_txn.proofs.TxnLemmas.{seen_of, got_in, got_undoable}
use Rattle.signal_txn.proofs.txn.Txn.get.Goals as goal

pub invariant_of-self : goal.invariant_of-self
invariant_of-self g c =
    let got = c.get.follows.holds-at-none.0 in
    subst (λ (r : g.row.R.Denot). AreUndoable (g.R.Rules.meaning r) g.R.Key.Ord.cmp c.get.follows.lender-at-none.values (reverse c.self.inside.levels.items)) (sym got.rules)
    (got_undoable (g.R.Rules.meaning c.self.inside.graph.values.rules) g.R.Key.Ord.cmp c.self.inside.graph c.get.follows.lender-at-none c.self.inside.levels.items got c.self.invariant)

pub returns : goal.returns
returns g c = (
  (
    refl,
    (λ s. tt),
    (
      subst (λ (s : Seen g.row.R.Denot g.row.R-Key.Denot g.row.R-Value.Denot). IsGotIn (g.R.Rules.meaning s.graph.values.rules) g.R.Key.Ord.cmp s (seen_of c.get.follows.lender-at-none c.self.inside.levels.items c.self.inside.ring)) c.self.view_is
          (got_in (g.R.Rules.meaning c.self.inside.graph.values.rules) g.R.Key.Ord.cmp c.self.inside.graph c.get.follows.lender-at-none c.self.inside.levels.items c.self.inside.ring c.get.follows.holds-at-none.0 c.get.follows.holds-at-none.1),
      c.get.follows.holds-at-none.2,
    ),
  ),
  record {
    left = tt;
    value = subst (λ (s : Seen g.row.R.Denot g.row.R-Key.Denot g.row.R-Value.Denot). IfOk c.get.result (λ v. v.now ≡ value_in (g.R.Rules.meaning s.graph.values.rules) g.R.Key.Ord.cmp s.graph.values c.args.key.now)) c.self.view_is c.get.ensures.value;
    free = λ h. c.get.ensures.free (subst (λ (s : Seen g.row.R.Denot g.row.R-Key.Denot g.row.R-Value.Denot). IsFreshIn s.graph.values c.args.key.now) (sym c.self.view_is) h);
  },
)
