use Rattle.std.proofs.Common.{◌≡◌, ℕ, None, option_map, ap, ◌∙◌}
use Rattle.std.specs.Prelude.{slice_index_or}
use Rattle.signal_core.specs.Watches.{watch_at}
use Rattle.record_store.specs.Seen.{records, watches}
use Rattle.live_views.specs.Telling.{as_told}
use Rattle.live_views.proofs.NewsLemmas.{Agrees, agrees, listed, stands_told, told_watch}
use Rattle.live_views.proofs.views.told.Goals as goal

pub returns-clause-told : goal.returns-clause-told
returns-clause-told g c ws stand =
    let store = c.args.store.now in
    let m = records store in
    let news = c.in_ok-news.news in
    let each : (k : ℕ) → Agrees m (slice_index_or news.told.items k None) (slice_index_or ws k None) = λ k. agrees m (watch_at (watches store) k) (slice_index_or news.told.items k None) (slice_index_or ws k None) (c.in_ok-news.ensures.plain k) (stand k) in
    c.in_ok-told.ensures ∙ ap as_told (c.due.ensures ∙ c.in_ok-news.ensures.news.are.due_are) ∙ listed m 0 news.told.items ws each

pub returns-clause-ok : goal.returns-clause-ok
returns-clause-ok g c ws stand =
    let store = c.args.store.now in
    let news = c.in_ok-news.ensures in
    let told : (number : ℕ) → watch_at (watches c.tell.new.self) number ≡ option_map (told_watch (records store)) (watch_at (watches store) number) = λ number. c.tell.ensures.told number ∙ (λ i. option_map (told_watch (news.asked.records i)) (watch_at (news.watches i) number)) in
    stands_told (records store) (watches store) (watches c.tell.new.self) ws told stand
