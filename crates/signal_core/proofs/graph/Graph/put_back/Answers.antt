use Rattle.std.proofs.Common.{sym, subst}
use Rattle.signal_values.specs.Seen.{IsListed}
use Rattle.signal_core.specs.Seen.{Seen}
use Rattle.signal_core.proofs.graph.Graph.put_back.Goals as goal

pub put_back-requires-clause-listed : goal.put_back-requires-clause-listed
put_back-requires-clause-listed g c = subst (λ (s : Seen g.row.R.Denot g.row.R-Key.Denot g.row.R-Value.Denot). IsListed s.values c.args.key.now) (sym c.self.view_is) c.requires.listed
