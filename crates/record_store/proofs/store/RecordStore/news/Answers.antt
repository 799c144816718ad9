use Rattle.std.proofs.Common.{refl, sym, ap, subst, ◌∙◌}
use Rattle.std.specs.Prelude.{ℕ, None, IfOk, OnOk, slice_index_or}
use Rattle.signal_core.specs.News.{IsNews, AreNewsOf}
use Rattle.signal_core.specs.Watches.{watch_at}
use Rattle.signal_core.specs.declared.news.News.{News}
use Rattle.tl_rules.specs.Exact.{key_cmp}
use Rattle.tl_rules.specs.Meaning.{tl_meaning}
use Rattle.tl_rules.specs.declared.value.TlValue.{TlValue}
use Rattle.signal_core.specs.Due.{AreFreshKeys, AreFreshIn}
use Rattle.record_store.specs.Calls.{AreDue, AreAsked, ArePlainNews}
use Rattle.record_store.specs.Seen.{Seen, begun, watches}
use Rattle.record_store.proofs.CallLemmas.{none_open, are_due, are_asked, plain_news}
use Rattle.record_store.proofs.FrameLemmas.{if_ok}
use Rattle.record_store.proofs.store.RecordStore.news.Goals as goal

pub news-requires : goal.news-requires
news-requires g c =
    let old : Seen = record { keys = c.self.inside.keys; txn = c.self.inside.graph } in
    none_open old (ap begun c.self.view_is ∙ c.requires)

pub returns-clause-due : goal.returns-clause-due
returns-clause-due g c =
    let old : Seen = record { keys = c.self.inside.keys; txn = c.self.inside.graph } in
    subst (λ (s : Seen). IfOk c.news.result (λ news. AreDue s news.due.items)) c.self.view_is (if_ok c.news.result (λ news are. are_due old c.self.invariant news.due.items are) c.news.ensures.due)

pub returns-clause-asked : goal.returns-clause-asked
returns-clause-asked g c =
    let old : Seen = record { keys = c.self.inside.keys; txn = c.self.inside.graph } in
    let new : Seen = record { keys = c.self.inside.keys; txn = c.news.new.self } in
    subst (λ (s : Seen). AreAsked s new) c.self.view_is (are_asked old new refl c.news.ensures.got c.news.ensures.journal)

pub returns-clause-fresh : goal.returns-clause-fresh
returns-clause-fresh g c = subst (λ (s : Seen). OnOk c.news.result (AreFreshKeys (watches s) c.news.new.self.graph.values)) c.self.view_is c.news.ensures.fresh

pub returns-clause-free : goal.returns-clause-free
returns-clause-free g c = λ h. c.news.ensures.free (subst (λ (s : Seen). AreFreshIn (watches s) s.txn.graph.values) (sym c.self.view_is) h)

pub returns-clause-plain : goal.returns-clause-plain
returns-clause-plain g c =
    let old : Seen = record { keys = c.self.inside.keys; txn = c.self.inside.graph } in
    let each = λ (news : News TlValue) (are : AreNewsOf tl_meaning key_cmp c.news.new.self.graph news) (number : ℕ).
    plain_news old c.self.invariant c.news.new.self.graph.values number (watch_at (watches old) number) (slice_index_or news.told.items number None) c.news.ensures.got.atoms refl
    (subst (λ ws. IsNews tl_meaning key_cmp c.news.new.self.graph.values (watch_at ws number) (slice_index_or news.told.items number None)) c.news.ensures.watches (are.are.each number)) in
    subst (λ (s : Seen). IfOk c.news.result (λ news. ArePlainNews s news.told.items)) c.self.view_is (if_ok c.news.result each c.news.ensures.news)
