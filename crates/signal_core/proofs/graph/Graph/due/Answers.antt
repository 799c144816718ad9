use Rattle.std.proofs.Common.{List, sym, subst}
use Rattle.signal_values.specs.Seen as values
use Rattle.signal_core.specs.declared.watch.WatchId.{WatchId}
use Rattle.signal_core.specs.Due.{AreDue, AreFreshKeys}
use Rattle.signal_core.proofs.NewsLemmas.{told_before}
use Rattle.signal_core.proofs.graph.Graph.due.Goals as goal

pub returns-clause-due : goal.returns-clause-due
returns-clause-due g c = subst (λ (due : List (WatchId × g.row.R-Value.Denot)). AreDue (g.R.Rules.meaning c.args.self.now.values.rules) g.R.Key.Ord.cmp c.args.self.now due) (sym c.tell.ensures.due) c.in_ok-news.ensures.due

pub returns-clause-told : goal.returns-clause-told
returns-clause-told g c = told_before g.R.Rules.meaning g.R.Key.Ord.cmp c.args.self.now c.news.new.self c.tell.new.self.watches c.news.ensures.got c.news.ensures.watches c.tell.ensures.told

pub returns-clause-fresh : goal.returns-clause-fresh
returns-clause-fresh g c = subst (λ (vs : values.Seen g.row.R.Denot g.row.R-Key.Denot g.row.R-Value.Denot). AreFreshKeys c.args.self.now.watches vs) (sym c.tell.ensures.values) c.in_ok-news.ensures.fresh
