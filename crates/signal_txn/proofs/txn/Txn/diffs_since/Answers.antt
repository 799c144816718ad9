use Rattle.std.proofs.Common.{◌∙◌, sym, subst, arith}
use Rattle.std.specs.Prelude.{reverse}
use Rattle.signal_txn.specs.Histories.{Keeps, KeepEach}
use Rattle.signal_txn.specs.Seen.{Seen}
use Rattle.signal_txn.proofs.HistoryLemmas.{diffs-all}
use Rattle.signal_txn.proofs.txn.Txn.diffs_since.Goals as goal

pub returns-clause-all : goal.returns-clause-all
returns-clause-all g c = λ history keeps.
    let levels = reverse c.self.inside.levels.items in
    let k : KeepEach history levels c.self.inside.ring c.self.inside.graph.values.epoch =
    subst (λ (s : Seen g.row.R.Denot g.row.R-Key.Denot g.row.R-Value.Denot). Keeps history s.journal s.graph.values.epoch) (sym c.self.view_is) keeps in
    c.in_ok-copies_after.ensures
    ∙ diffs-all c.args.epoch history levels c.self.inside.ring c.self.inside.graph.values.epoch k (omega (arith, c.dropped_epoch.ensures, c.if-epoch-dropped_epoch.false))
