use Rattle.std.proofs.Common.{sym, subst}
use Rattle.signal_values.specs.Seen.{IsListed}
use Rattle.signal_core.specs.Seen.{Seen}
use Rattle.signal_core.proofs.graph.Graph.set.Goals as goal

pub returns-clause-sure : goal.returns-clause-sure
returns-clause-sure g c = λ h. c.set.ensures.sure (subst (λ (s : Seen g.row.R.Denot g.row.R-Key.Denot g.row.R-Value.Denot). IsListed s.values c.args.key) (sym c.self.view_is) h)
