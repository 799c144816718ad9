use Rattle.std.proofs.Common.{◌≡◌, ◌∙◌, ◌<◌, ◌∷◌, [], ap, sym, refl, subst, None, Ok, Err}
use Rattle.room_model.specs.declared.line.OutLine.TheVariants as line
use Rattle.std.specs.Vec.{with_item}
use Rattle.room_model.specs.Worlds.{on_deliver}
use Rattle.sync_world.proofs.EventLemmas.{same_item}
use Rattle.sync_world.specs.declared.live.WorldClient.{WorldClient}
use Rattle.room_model.specs.declared.fault.StepFault.TheVariants.{NoSuchSession, NothingThere}
use Rattle.sync_world.specs.Answers.{Answers}
use Rattle.sync_world.proofs.DeliverLemmas.{deliver_refused, deliver_nothing, deliver_message, deliver_end}
use Rattle.sync_world.specs.Viewing.{stores_in, ChangesOne}
use Rattle.sync_world.proofs.ViewingLemmas.{same_stores, stays_one}
use Rattle.sync_world.proofs.live.Live.deliver.Goals as goal

pub returns-in_default-session-clause-step : goal.returns-in_default-session-clause-step
returns-in_default-session-clause-step g c = λ schemas world keeps.
    subst (λ n. Answers schemas world (on_deliver n world) (Err NoSuchSession) c.args.self.now) c.in-Some.ensures.found.0
    (deliver_refused schemas world c.args.self.now keeps c.in-Some.at c.index.result.now c.in-Some.ensures.found.1 c.index.ensures c.in_default-session.is)

pub returns-in-None-clause-step : goal.returns-in-None-clause-step
returns-in-None-clause-step g c = λ schemas world keeps.
    subst (λ n. Answers schemas world (on_deliver n world) (Err NothingThere) (record c.args.self.now { queues = c.take_given.new.self })) c.in-Some.ensures.found.0
    (deliver_nothing schemas world c.args.self.now keeps c.in-Some.at c.index.result.now c.in-Some.ensures.found.1 c.index.ensures c.in-Some-session.session c.in-Some-session.is
    c.in-None.ensures.first _ refl refl c.in-None.ensures.sent c.in-None.ensures.rest)

pub returns-in_ok-take-in-Some-Message-clause-step : goal.returns-in_ok-take-in-Some-Message-clause-step
returns-in_ok-take-in-Some-Message-clause-step g c = λ schemas world keeps.
    subst (λ n. Answers schemas world (on_deliver n world) (Ok c.new.result) c.take.new.self) c.in-Some.ensures.found.0
    (deliver_message schemas world c.args.self.now keeps c.in-Some.at c.index.result.now c.in-Some.ensures.found.1 c.index.ensures c.in-Some-session.session c.in-Some-session.is
    c.in-Some-Message.field-0 c.in-Some-Message.ensures.first _ refl refl c.in-Some-Message.ensures.sent c.in-Some-Message.ensures.rest
    c.in-Some-Message.message c.in-Some-Message.field-0-is c.take.new.self c.new.result c.new.ensures.items c.in_ok-take-in-Some-Message.ensures.taken c.in_ok-take-in-Some-Message.ensures.given)

pub returns-in_ok-one_line-in-Some-End-clause-step : goal.returns-in_ok-one_line-in-Some-End-clause-step
returns-in_ok-one_line-in-Some-End-clause-step g c = λ schemas world keeps.
    let live = c.args.self.now in
    let long = live.clients.ok.0 in
    let one = c.index_mut-client.result.now in
    let same : c.index_mut-client.result.now ≡ c.index.result.now =
    same_item live.clients.items c.in-Some.at _ _ (subst (λ n. c.in-Some.at < n) long c.in-Some.ensures.found.1) c.index_mut-client.ensures.value c.index.ensures in
    let session = ap (λ (k : WorldClient). k.session) same ∙ c.in-Some-session.is in
    let popped = record live { queues = c.take_given.new.self } in
    let new = record popped { clients = with_item live.clients c.in-Some.at (record one { peer = c.ended.new.self; session = None }) } in
    let answer = deliver_end schemas world live keeps c.in-Some.at one c.in-Some.ensures.found.1 c.index_mut-client.ensures.value c.in-Some-session.session session
    c.in-Some-End.field-0 c.in-Some-End.ensures.first popped refl refl c.in-Some-End.ensures.sent c.in-Some-End.ensures.rest
    c.in-Some-End.reason c.in-Some-End.field-0-is c.ended.new.self c.ended.ensures.stands new refl refl refl c.in_ok-one_line-in-Some-End.field-0
    (c.in_ok-one_line-in-Some-End.ensures ∙ ap (λ n. line.Ended n c.in-Some-End.reason ∷ []) (sym c.in-Some.ensures.found.0)) in
    subst (λ n. Answers schemas world (on_deliver n world) (Ok c.in_ok-one_line-in-Some-End.field-0) new) c.in-Some.ensures.found.0 answer

pub returns-in_ok-one_line-in-Some-End-clause-stores : goal.returns-in_ok-one_line-in-Some-End-clause-stores
returns-in_ok-one_line-in-Some-End-clause-stores g c =
    subst (ChangesOne c.args.number (stores_in c.args.self.now))
    (sym (same_stores c.args.self.now c.in-Some.at c.index_mut-client.result.now (record c.index_mut-client.result.now { peer = c.ended.new.self; session = None })
    c.in-Some.ensures.found.1 c.index_mut-client.ensures.value c.ended.ensures.store))
    (stays_one c.args.number (stores_in c.args.self.now))
