use Rattle.std.proofs.Common.{sym, ap, subst, ◌∙◌}
use Rattle.std.proofs.lemmas.Result.{IfOk-weaker, on_ok_weaker}
use Rattle.record_store.specs.Seen.{watches}
use Rattle.signal_core.specs.Due.{AreFreshIn}
use Rattle.live_views.specs.Watches.{Stand, news, all_told}
use Rattle.sync_peer.specs.Calls.{records_of}
use Rattle.sync_peer.proofs.PeerLemmas.{shown_is, still_stands}
use Rattle.sync_peer.proofs.peer.Peer.told.Goals as goal

pub returns-clause-told : goal.returns-clause-told
returns-clause-told g c = IfOk-weaker c.told.result _ _
    (λ told is. λ schemas state ws stands closed stand.
    let same = c.store_mut-store.ensures.value in
    is ws (subst (λ s. Stand (watches s) ws) (sym same) stand) ∙ ap (λ m. news m ws) (ap records_of same ∙ sym (shown_is schemas state c.args.self.now stands)))
    c.told.ensures.told

pub returns-clause-ok : goal.returns-clause-ok
returns-clause-ok g c = on_ok_weaker c.told.result
    (λ is schemas state ws stands closed stand.
    let same = c.store_mut-store.ensures.value in
    subst (λ m. Stand (watches c.told.new.store) (all_told m ws)) (ap records_of same ∙ sym (shown_is schemas state c.args.self.now stands))
    (is ws (subst (λ s. Stand (watches s) ws) (sym same) stand)))
    c.told.ensures.ok

pub returns-clause-stands : goal.returns-clause-stands
returns-clause-stands g c = λ schemas state stands.
    still_stands schemas state c.args.self.now c.told.new.store stands (c.told.ensures.asked.records ∙ ap records_of c.store_mut-store.ensures.value)

pub returns-clause-free : goal.returns-clause-free
returns-clause-free g c = λ fresh.
    c.told.ensures.free (subst (λ s. AreFreshIn (watches s) s.txn.graph.values) (sym c.store_mut-store.ensures.value) fresh)
