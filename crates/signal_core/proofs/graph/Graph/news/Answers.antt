use Rattle.std.proofs.Common.{◌≡◌, List, Option, length, sym, ◌∙◌, ap, subst}
use Rattle.std.specs.Prelude.{IfOk, OnOk}
use Rattle.std.proofs.lemmas.Result.{IfOk-weaker}
use Rattle.signal_core.specs.declared.watch.Watch.{Watch}
use Rattle.signal_core.specs.Seen.{Seen}
use Rattle.signal_core.specs.Due.{AreDue, AreFreshKeys, AreFreshIn}
use Rattle.signal_core.specs.News.{AreNews, AreNewsOf}
use Rattle.signal_core.proofs.NewsLemmas.{are_due, both_ok, news_after}
use Rattle.signal_core.proofs.graph.Graph.news.Goals as goal

pub returns-clause-news : goal.returns-clause-news
returns-clause-news g c =
    let m = g.R.Rules.meaning c.self.inside.values.rules in
    let cmp = g.R.Key.Ord.cmp in
    both_ok c.find_news.result (λ news. AreNews m cmp c.self.inside.values c.deref.result.now news.told.items news.due.items) (λ news. length news.told.items ≡ length c.deref.result.now)
    (λ news. AreNewsOf (g.R.Rules.meaning c.find_news.new.values.rules) cmp (record { values = c.find_news.new.values; watches = c.self.inside.watches.items }) news)
    (λ news are count. news_after g.R.Rules.meaning cmp c.self.inside.values c.find_news.new.values c.deref.result.now c.self.inside.watches.items news c.deref.ensures.value c.find_news.ensures.got are count)
    c.find_news.ensures.news c.find_news.ensures.length

pub returns-clause-due : goal.returns-clause-due
returns-clause-due g c =
    let m = g.R.Rules.meaning c.self.inside.values.rules in
    let cmp = g.R.Key.Ord.cmp in
    let seen_is : record { values = c.self.inside.values; watches = c.deref.result.now } ≡ c.args.self.now = ap (λ (ws : List (Option (Watch g.row.R-Key.Denot g.row.R-Value.Denot))). record { values = c.self.inside.values; watches = ws }) c.deref.ensures.value ∙ c.self.view_is in
    subst (λ (s : Seen g.row.R.Denot g.row.R-Key.Denot g.row.R-Value.Denot). IfOk c.find_news.result (λ news. AreDue (g.R.Rules.meaning s.values.rules) cmp s news.due.items)) seen_is
    (IfOk-weaker c.find_news.result (λ news. AreNews m cmp c.self.inside.values c.deref.result.now news.told.items news.due.items) (λ news. AreDue m cmp (record { values = c.self.inside.values; watches = c.deref.result.now }) news.due.items)
    (λ news are. are_due m cmp (record { values = c.self.inside.values; watches = c.deref.result.now }) news.told.items news.due.items are) c.find_news.ensures.news)

pub returns-clause-fresh : goal.returns-clause-fresh
returns-clause-fresh g c = subst (λ (ws : List (Option (Watch g.row.R-Key.Denot g.row.R-Value.Denot))). OnOk c.find_news.result (AreFreshKeys ws c.find_news.new.values)) (c.deref.ensures.value ∙ ap (λ (s : Seen g.row.R.Denot g.row.R-Key.Denot g.row.R-Value.Denot). s.watches) c.self.view_is) c.find_news.ensures.fresh

pub returns-clause-free : goal.returns-clause-free
returns-clause-free g c = λ h. c.find_news.ensures.free (subst (λ (s : Seen g.row.R.Denot g.row.R-Key.Denot g.row.R-Value.Denot). AreFreshIn s.watches s.values) (sym (ap (λ (ws : List (Option (Watch g.row.R-Key.Denot g.row.R-Value.Denot))). record { values = c.self.inside.values; watches = ws }) c.deref.ensures.value ∙ c.self.view_is)) h)
