use Rattle.std.proofs.Common.{sym, subst}
use Rattle.std.proofs.lemmas.Result.{IfOk-weaker}
use Rattle.record_store.specs.Seen.{watches}
use Rattle.live_views.specs.Watches.{Stand}
use Rattle.sync_peer.proofs.peer.Peer.watch.Goals as goal

pub returns-clause-ok : goal.returns-clause-ok
returns-clause-ok c = IfOk-weaker c.watch.result _ _
    (λ id is. λ old new stand watching. is old new (subst (λ s. Stand (watches s) old) (sym c.store_mut.ensures.value) stand) watching)
    c.watch.ensures.ok
