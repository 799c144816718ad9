use Rattle.std.proofs.Common.{◌≡◌, Some, Err, sym, subst, ◌∙◌}
use Rattle.std.specs.Prelude.{◌↔◌}
use Rattle.std.proofs.lemmas.Result.{IfOk-weaker}
use Rattle.record_store.specs.Seen.{Seen, begun, watches}
use Rattle.signal_core.specs.Watches.{IsFull}
use Rattle.signal_core.specs.declared.watch.WatchFault.TheVariants as watch_fault
use Rattle.live_views.specs.Watches.{Stand}
use Rattle.sync_peer.specs.Viewing.{store_of}
use Rattle.sync_world.proofs.ViewingLemmas.{had, set_has, one_changes, still_stands}
use Rattle.rooms_val.proofs.Truths.{on_err_so}
use Rattle.sync_world.proofs.world.World.watch.Goals as goal

pub returns-clause-ok : goal.returns-clause-ok
returns-clause-ok c = IfOk-weaker c.watch.result _ _
    (λ id is. λ old new has watching store there.
    let live = c.args.self.now.live in
    let found = c.index_mut.result.now in
    subst (λ (s : Seen). Stand (watches s) new)
    (set_has live c.args.client found (record found { peer = c.watch.new.self }) c.requires c.index_mut.ensures.value store there)
    (is old new (has _ (had live c.args.client found found c.requires c.index_mut.ensures.value)) watching))
    c.watch.ensures.ok

pub returns-clause-full : goal.returns-clause-full
returns-clause-full c = λ store there.
    let found = c.index_mut.result.now in
    let same : store_of found.peer ≡ store =
    let both : Some (store_of found.peer) ≡ Some store = sym (had c.args.self.now.live c.args.client found found c.requires c.index_mut.ensures.value) ∙ there in
    cc in
    subst (λ (s : Seen). (c.watch.result ≡ Err watch_fault.Full) ↔ IsFull (watches s)) same c.watch.ensures.full

pub returns-clause-err : goal.returns-clause-err
returns-clause-err c = on_err_so c.watch.result _ _
    (λ same ws has store there.
    let live = c.args.self.now.live in
    let found = c.index_mut.result.now in
    subst (λ (s : Seen). Stand (watches s) ws)
    (set_has live c.args.client found (record found { peer = c.watch.new.self }) c.requires c.index_mut.ensures.value store there)
    (subst (λ slots. Stand slots ws) (sym same) (has _ (had live c.args.client found found c.requires c.index_mut.ensures.value))))
    c.watch.ensures.err

pub returns-clause-stands : goal.returns-clause-stands
returns-clause-stands c = λ schemas world stands.
    still_stands schemas world c.args.self.now c.args.client c.index_mut.result.now c.watch.new.self c.requires c.index_mut.ensures.value
    (λ state is. c.watch.ensures.stands schemas state is) stands

pub returns-clause-stores : goal.returns-clause-stores
returns-clause-stores c =
    one_changes c.args.self.now.live c.args.client c.index_mut.result.now (record c.index_mut.result.now { peer = c.watch.new.self })
    c.requires c.index_mut.ensures.value (λ s t. begun t ≡ begun s) c.watch.ensures.begun
