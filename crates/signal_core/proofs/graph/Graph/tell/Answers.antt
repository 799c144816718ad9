use Rattle.std.proofs.Common.{◌≡◌, List, Option, length, sym, ◌∙◌, ap, subst, arith}
use Rattle.signal_core.specs.declared.watch.Watch.{Watch}
use Rattle.signal_core.specs.Seen.{Seen}
use Rattle.signal_core.specs.Due.{AreTold}
use Rattle.signal_core.specs.News.{AreToldBy}
use Rattle.signal_core.proofs.NewsLemmas.{are_told, put_back_into}
use Rattle.signal_core.proofs.graph.Graph.tell.Goals as goal

pub returns-clause-told : goal.returns-clause-told
returns-clause-told g c =
    let m = g.R.Rules.meaning c.args.self.now.values.rules in
    let cmp = g.R.Key.Ord.cmp in
    let by : AreToldBy c.args.self.now.watches c.args.news.told.items c.tell_all.new.watches = subst (λ (ws : List (Option (Watch g.row.R-Key.Denot g.row.R-Value.Denot))). AreToldBy ws c.args.news.told.items c.tell_all.new.watches) (c.deref_mut.ensures.value ∙ ap (λ (s : Seen g.row.R.Denot g.row.R-Key.Denot g.row.R-Value.Denot). s.watches) c.self.view_is) c.tell_all.ensures in
    let count : length c.tell_all.new.watches ≡ length c.self.inside.watches.items = c.tell_all.ensures.same_length ∙ ap length c.deref_mut.ensures.value in
    subst (λ (ws : List (Option (Watch g.row.R-Key.Denot g.row.R-Value.Denot))). AreTold m cmp c.args.self.now ws)
    (sym (put_back_into c.self.inside.watches.items c.tell_all.new.watches c.self.inside.watches.len count (omega (arith, c.self.inside.watches.ok.0))))
    (are_told m cmp c.args.self.now c.args.news.told.items c.args.news.due.items c.tell_all.new.watches c.requires.are by)
