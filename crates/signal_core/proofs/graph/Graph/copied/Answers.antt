use Rattle.std.proofs.Common.{sym, subst}
use Rattle.signal_values.specs.Seen.{IsFreshIn}
use Rattle.signal_core.specs.Seen.{Seen}
use Rattle.signal_core.proofs.graph.Graph.copied.Goals as goal

pub returns-clause-free : goal.returns-clause-free
returns-clause-free g c = λ h. c.copied.ensures.free (subst (λ (s : Seen g.row.R.Denot g.row.R-Key.Denot g.row.R-Value.Denot). IsFreshIn s.values c.args.key.now) (sym c.self.view_is) h)
