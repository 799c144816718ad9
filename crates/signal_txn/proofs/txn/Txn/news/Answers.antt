use Rattle.std.proofs.Common.{sym, subst}
use Rattle.std.specs.Prelude.{OnOk}
use Rattle.signal_core.specs.Due.{AreFreshKeys, AreFreshIn}
use Rattle.signal_txn.specs.Seen.{Seen}
use Rattle.signal_txn.proofs.txn.Txn.news.Goals as goal

pub returns-clause-fresh : goal.returns-clause-fresh
returns-clause-fresh g c = subst (λ (s : Seen g.row.R.Denot g.row.R-Key.Denot g.row.R-Value.Denot). OnOk c.news.result (AreFreshKeys s.graph.watches c.news.new.self.values)) c.self.view_is c.news.ensures.fresh

pub returns-clause-free : goal.returns-clause-free
returns-clause-free g c = λ h. c.news.ensures.free (subst (λ (s : Seen g.row.R.Denot g.row.R-Key.Denot g.row.R-Value.Denot). AreFreshIn s.graph.watches s.graph.values) (sym c.self.view_is) h)
