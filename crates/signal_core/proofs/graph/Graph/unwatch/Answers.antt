use Rattle.std.proofs.Common.{ap}
use Rattle.signal_core.specs.Seen.{Seen}
use Rattle.signal_core.proofs.WatchLemmas.{drops}
use Rattle.signal_core.proofs.graph.Graph.unwatch.Goals as goal

pub returns-clause-watches : goal.returns-clause-watches
returns-clause-watches g c = drops c.self.inside.watches.items c.args.self.now.watches c.args.id.number (ap (λ (s : Seen g.row.R.Denot g.row.R-Key.Denot g.row.R-Value.Denot). s.watches) c.self.view_is) c.requires
