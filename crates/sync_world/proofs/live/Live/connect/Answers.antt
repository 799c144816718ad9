use Rattle.std.proofs.Common.{◌<◌, sym, refl, subst, Some, Ok, Err, ap, ◌∙◌}
use Rattle.std.proofs.lemmas.Result.{IfOk-weaker}
use Rattle.std.specs.Vec.{with_item}
use Rattle.room_model.specs.Rooms.{Room}
use Rattle.room_model.specs.Worlds.{on_connect}
use Rattle.room_model.specs.declared.fault.StepFault.TheVariants.{Connect, Limit}
use Rattle.sync_room.specs.Standing as room_of
use Rattle.sync_world.specs.Moving.{Enters}
use Rattle.sync_world.specs.Answers.{Answers}
use Rattle.sync_world.proofs.ListLemmas.{got_item}
use Rattle.sync_world.proofs.ConnectLemmas.{connect_refused, connect_none, connect_done}
use Rattle.std.specs.Prelude.{vec_len}
use Rattle.std.specs.Global.{Vec}
use Rattle.sync_world.specs.Viewing.{stores_kept}
use Rattle.sync_world.specs.declared.live.WorldClient.{WorldClient}
use Rattle.sync_world.proofs.ViewingLemmas.{same_stores}
use Rattle.sync_world.proofs.live.Live.connect.Goals as goal

pub returns-in-Err-clause-step : goal.returns-in-Err-clause-step
returns-in-Err-clause-step c = IfOk-weaker c.not_connected.result _ _
    (λ answer so. λ schemas world keeps.
    let live = c.args.self.now in
    let one = c.index_mut.result.now in
    let mid = record live { clients = with_item live.clients c.in-Some.at (record one { peer = c.connect.new.self }) } in
    subst (λ a. Answers schemas world (on_connect schemas c.args.number c.args.readonly world) a mid) (sym so.0)
    (subst (λ n. Answers schemas world (on_connect schemas n c.args.readonly world) (Err (Connect c.in-Err.fault)) mid) c.in-Some.ensures.found.0
    (connect_refused schemas world live keeps c.in-Some.at one c.in-Some.ensures.found.1 c.index_mut.ensures.value c.args.readonly c.len-session.result c.connect.new.self mid refl refl refl
    c.in-Err.fault (λ s state stands. c.in-Err.ensures.answer s state stands so.1) c.in-Err.ensures.err)))
    c.not_connected.ensures

pub returns-then-not-branch-clause-step : goal.returns-then-not-branch-clause-step
returns-then-not-branch-clause-step c = λ schemas world keeps.
    let live = c.args.self.now in
    let one = c.index_mut.result.now in
    let long = live.clients.ok.0 in
    let was = got_item live.clients.items c.in-Some.at one (subst (λ n. c.in-Some.at < n) long c.in-Some.ensures.found.1) c.index_mut.ensures.value in
    let mid = record live { clients = with_item live.clients c.in-Some.at (record one { peer = c.connect.new.self }) } in
    let none = c.if-not-branch.true in
    let last = c.index_mut-then-not-branch.result.now in
    let new = record c.enter.new.self { clients = with_item c.enter.new.self.clients c.in-Some.at (record last { peer = c.lost.new.self }) } in
    subst (λ n. Answers schemas world (on_connect schemas n c.args.readonly world) (Err Limit) new) c.in-Some.ensures.found.0
    (connect_none schemas world live keeps c.in-Some.at one c.in-Some.ensures.found.1 c.index_mut.ensures.value c.args.readonly c.len-session.result c.connect.new.self mid refl refl refl
    c.len-session.ensures.given c.in-Ok.request c.in-Ok.ensures.answer c.in-Ok.ensures.ok c.enter.new.self c.in_ok-enter.ensures.clients last c.index_mut-then-not-branch.ensures.value new refl refl was
    (subst (λ b. (state : Room) → room_of.Stands state live.room → Enters c.len-session.result c.args.readonly c.in-Ok.request state b mid c.enter.new.self) none c.in_ok-enter.ensures.entered)
    c.lost.new.self c.lost.ensures.stands refl)

pub returns-clause-step : goal.returns-clause-step
returns-clause-step c = λ schemas world keeps.
    let live = c.args.self.now in
    let one = c.index_mut.result.now in
    let long = live.clients.ok.0 in
    let was = got_item live.clients.items c.in-Some.at one (subst (λ n. c.in-Some.at < n) long c.in-Some.ensures.found.1) c.index_mut.ensures.value in
    let mid = record live { clients = with_item live.clients c.in-Some.at (record one { peer = c.connect.new.self }) } in
    let some = c.if-not-branch.false in
    let second = c.index_mut-2.result.now in
    let new = record c.enter.new.self { clients = with_item c.enter.new.self.clients c.in-Some.at (record second { session = Some c.len-session.result }) } in
    subst (λ n. Answers schemas world (on_connect schemas n c.args.readonly world) (Ok c.new.result) new) c.in-Some.ensures.found.0
    (connect_done schemas world live keeps c.in-Some.at one c.in-Some.ensures.found.1 c.index_mut.ensures.value c.args.readonly c.len-session.result c.connect.new.self mid refl refl refl
    c.len-session.ensures.given c.in-Ok.request c.in-Ok.ensures.answer c.in-Ok.ensures.ok c.enter.new.self c.in_ok-enter.ensures.clients second c.index_mut-2.ensures.value new refl refl was
    (subst (λ b. (state : Room) → room_of.Stands state live.room → Enters c.len-session.result c.args.readonly c.in-Ok.request state b mid c.enter.new.self) some c.in_ok-enter.ensures.entered)
    refl c.new.result c.new.ensures.items)

pub returns-then-not-branch-clause-stores : goal.returns-then-not-branch-clause-stores
returns-then-not-branch-clause-stores c =
    let live = c.args.self.now in
    let one = c.index_mut.result.now in
    let less = c.in-Some.ensures.found.1 in
    let last = c.index_mut-then-not-branch.result.now in
    let same = c.in_ok-enter.ensures.clients in
    same_stores c.enter.new.self c.in-Some.at last (record last { peer = c.lost.new.self })
    (subst (λ (cs : Vec WorldClient). c.in-Some.at < vec_len cs) (sym same) less) c.index_mut-then-not-branch.ensures.value c.lost.ensures.store
    ∙ ap (λ (cs : Vec WorldClient). stores_kept cs.items) same
    ∙ same_stores live c.in-Some.at one (record one { peer = c.connect.new.self }) less c.index_mut.ensures.value c.connect.ensures.store

pub returns-clause-stores : goal.returns-clause-stores
returns-clause-stores c =
    let live = c.args.self.now in
    let one = c.index_mut.result.now in
    let less = c.in-Some.ensures.found.1 in
    let second = c.index_mut-2.result.now in
    let same = c.in_ok-enter.ensures.clients in
    same_stores c.enter.new.self c.in-Some.at second (record second { session = Some c.len-session.result })
    (subst (λ (cs : Vec WorldClient). c.in-Some.at < vec_len cs) (sym same) less) c.index_mut-2.ensures.value refl
    ∙ ap (λ (cs : Vec WorldClient). stores_kept cs.items) same
    ∙ same_stores live c.in-Some.at one (record one { peer = c.connect.new.self }) less c.index_mut.ensures.value c.connect.ensures.store
