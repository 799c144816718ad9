use Rattle.std.proofs.Common.{◌≡◌, ◌∙◌, ap, refl, subst, Some, None, ◌<◌}
use Rattle.std.proofs.lemmas.Result.{on_ok_weaker}
use Rattle.std.specs.Prelude.{IfNone}
use Rattle.room_model.specs.Rooms as model
use Rattle.sync_room.specs.Standing as room_of
use Rattle.sync_world.specs.declared.live.WorldClient.{WorldClient}
use Rattle.sync_world.proofs.EventLemmas.{same_item}
use Rattle.sync_world.proofs.RoomPeerLemmas.{is_here}
use Rattle.sync_world.proofs.SendingLemmas.{pushed, sent_nowhere, sent_gone, sent_there}
use Rattle.sync_world.proofs.ViewingLemmas.{same_stores}
use Rattle.sync_world.proofs.live.Live.push.Goals as goal

pub returns-in_default-clause-pushed : goal.returns-in_default-clause-pushed
returns-in_default-clause-pushed c = λ schemas world client fits made.
    let live = c.args.self.now in
    let one = c.index_mut.result.now in
    let long = live.clients.ok.0 in
    let same : c.index_mut.result.now ≡ c.index.result.now = same_item live.clients.items c.args.at _ _ (subst (λ n. c.args.at < n) long c.requires) c.index_mut.ensures.value c.index.ensures in
    pushed schemas world live fits c.args.at client one c.requires made c.index_mut.ensures.value c.in_ok-messages.messages.items c.pushes.new.peer c.in_ok-messages.ensures.pushes _ refl refl
    (sent_nowhere schemas world live fits c.args.at client one c.requires made c.index_mut.ensures.value c.in_ok-messages.messages.items c.pushes.new.peer c.in_ok-messages.ensures.pushes
    (ap (λ (k : WorldClient). k.session) same ∙ c.in_default.is))

pub returns-in_default-find-clause-pushed : goal.returns-in_default-find-clause-pushed
returns-in_default-find-clause-pushed c = λ schemas world client fits made.
    let live = c.args.self.now in
    let one = c.index_mut.result.now in
    let long = live.clients.ok.0 in
    let same : c.index_mut.result.now ≡ c.index.result.now = same_item live.clients.items c.args.at _ _ (subst (λ n. c.args.at < n) long c.requires) c.index_mut.ensures.value c.index.ensures in
    let gone = subst (λ o. IfNone o ((state : model.Room) → room_of.Stands state live.room → model.session_at c.in-Some.session state ≡ None)) c.in_default-find.is c.find.ensures.none in
    pushed schemas world live fits c.args.at client one c.requires made c.index_mut.ensures.value c.in_ok-messages.messages.items c.pushes.new.peer c.in_ok-messages.ensures.pushes _ refl refl
    (sent_gone schemas world live fits c.args.at client one c.requires made c.index_mut.ensures.value c.in_ok-messages.messages.items c.pushes.new.peer c.in_ok-messages.ensures.pushes
    c.in-Some.session (ap (λ (k : WorldClient). k.session) same ∙ c.in-Some.is) (gone world.room fits.room))

pub returns-clause-pushed : goal.returns-clause-pushed
returns-clause-pushed c = on_ok_weaker c.send_all.result
    (λ sent schemas world client fits made.
    let live = c.args.self.now in
    let one = c.index_mut.result.now in
    let long = live.clients.ok.0 in
    let same : c.index_mut.result.now ≡ c.index.result.now = same_item live.clients.items c.args.at _ _ (subst (λ n. c.args.at < n) long c.requires) c.index_mut.ensures.value c.index.ensures in
    let found = c.in-Some-find.ensures.found in
    let here = is_here world.room live.room c.in-Some-find.field-0 fits.room found.1 in
    let there = subst (λ n. model.session_at n world.room ≡ Some here.0) found.0 here.1 in
    pushed schemas world live fits c.args.at client one c.requires made c.index_mut.ensures.value c.in_ok-messages.messages.items c.pushes.new.peer c.in_ok-messages.ensures.pushes _ refl refl
    (sent ∙ sent_there schemas world live fits c.args.at client one c.requires made c.index_mut.ensures.value c.in_ok-messages.messages.items c.pushes.new.peer c.in_ok-messages.ensures.pushes
    c.in-Some.session here.0 (ap (λ (k : WorldClient). k.session) same ∙ c.in-Some.is) there))
    c.send_all.ensures.sent

pub returns-in_default-clause-stores : goal.returns-in_default-clause-stores
returns-in_default-clause-stores c = same_stores c.args.self.now c.args.at c.index_mut.result.now (record c.index_mut.result.now { peer = c.pushes.new.peer })
    c.requires c.index_mut.ensures.value c.pushes.ensures.store

pub returns-in_default-find-clause-stores : goal.returns-in_default-find-clause-stores
returns-in_default-find-clause-stores c = same_stores c.args.self.now c.args.at c.index_mut.result.now (record c.index_mut.result.now { peer = c.pushes.new.peer })
    c.requires c.index_mut.ensures.value c.pushes.ensures.store

pub returns-clause-stores : goal.returns-clause-stores
returns-clause-stores c = on_ok_weaker c.send_all.result
    (λ sent. same_stores c.args.self.now c.args.at c.index_mut.result.now (record c.index_mut.result.now { peer = c.pushes.new.peer })
    c.requires c.index_mut.ensures.value c.pushes.ensures.store)
    c.send_all.ensures.sent
