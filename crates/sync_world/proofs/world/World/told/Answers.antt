use Rattle.std.proofs.Common.{◌≡◌, ap, subst, ◌∙◌}
use Rattle.std.proofs.lemmas.Result.{IfOk-weaker, on_ok_weaker}
use Rattle.record_store.specs.Seen.{Seen, begun, watches}
use Rattle.live_views.specs.Watches.{Stand, news, all_told}
use Rattle.room_model.specs.Worlds.{shown_in}
use Rattle.sync_peer.specs.Viewing.{watched}
use Rattle.sync_world.specs.States.{client_state}
use Rattle.sync_world.proofs.PartLemmas.{client_is}
use Rattle.sync_world.proofs.ShowLemmas.{shown_is}
use Rattle.sync_world.proofs.ViewingLemmas.{had, set_has, one_changes, still_stands}
use Rattle.sync_world.proofs.world.World.told.Goals as goal

pub returns-clause-told : goal.returns-clause-told
returns-clause-told g c = IfOk-weaker c.told.result _ _
    (λ told is. λ schemas world one ws stands at closed has.
    let live = c.args.self.now.live in
    let found = c.index_mut.result.now in
    let kept = client_is schemas world live stands.keeps.fits c.args.client one found c.requires at c.index_mut.ensures.value in
    let there = had live c.args.client found found c.requires c.index_mut.ensures.value in
    is schemas (client_state schemas world.room.history one) ws kept.peer (closed _ there) (has _ there)
    ∙ ap (λ m. news m ws) (shown_is schemas world live stands.keeps c.args.client one at))
    c.told.ensures.told

pub returns-clause-ok : goal.returns-clause-ok
returns-clause-ok g c = on_ok_weaker c.told.result
    (λ is schemas world one ws stands at closed has store new.
    let live = c.args.self.now.live in
    let found = c.index_mut.result.now in
    let kept = client_is schemas world live stands.keeps.fits c.args.client one found c.requires at c.index_mut.ensures.value in
    let there = had live c.args.client found found c.requires c.index_mut.ensures.value in
    let same = set_has live c.args.client found (record found { peer = c.told.new.self }) c.requires c.index_mut.ensures.value store new in
    subst (λ (s : Seen). Stand (watches s) (all_told (shown_in schemas world one) ws)) same
    (subst (λ m. Stand (watched c.told.new.self) (all_told m ws)) (shown_is schemas world live stands.keeps c.args.client one at)
    (is schemas (client_state schemas world.room.history one) ws kept.peer (closed _ there) (has _ there))))
    c.told.ensures.ok

pub returns-clause-stands : goal.returns-clause-stands
returns-clause-stands g c = λ schemas world stands.
    still_stands schemas world c.args.self.now c.args.client c.index_mut.result.now c.told.new.self c.requires c.index_mut.ensures.value
    (λ state is. c.told.ensures.stands schemas state is) stands

pub returns-clause-stores : goal.returns-clause-stores
returns-clause-stores g c =
    one_changes c.args.self.now.live c.args.client c.index_mut.result.now (record c.index_mut.result.now { peer = c.told.new.self })
    c.requires c.index_mut.ensures.value (λ s t. begun t ≡ begun s) c.told.ensures.begun
