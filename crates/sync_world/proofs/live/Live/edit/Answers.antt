use Rattle.std.proofs.Common.{sym, refl, subst, Ok, Err, slice_set}
use Rattle.std.proofs.lemmas.Result.{IfOk-weaker}
use Rattle.std.specs.Vec.{with_item}
use Rattle.room_model.specs.Worlds.{on_edit}
use Rattle.room_model.specs.declared.fault.StepFault.TheVariants.{Edit}
use Rattle.sync_world.specs.Answers.{Answers}
use Rattle.sync_world.proofs.EditLemmas.{edit_done, edit_refused}
use Rattle.sync_peer.specs.Viewing.{WatchAlike}
use Rattle.sync_world.specs.Viewing.{stores_in, stores_kept, ChangesOne}
use Rattle.sync_world.proofs.ViewingLemmas.{one_changes}
use Rattle.rooms_val.proofs.Truths.{on_ok_anyway}
use Rattle.sync_world.proofs.live.Live.edit.Goals as goal

pub returns-in_ok-push-in-Ok-clause-step : goal.returns-in_ok-push-in-Ok-clause-step
returns-in_ok-push-in-Ok-clause-step g c = λ schemas world keeps.
    subst (λ n. Answers schemas world (on_edit schemas n c.args.wanted.now world) (Ok c.new.result) c.push.new.self) c.in-Some.ensures.found.0
    (edit_done schemas world c.args.self.now keeps c.in-Some.at c.index_mut.result.now c.in-Some.ensures.found.1 c.index_mut.ensures.value c.edit.new.self _ refl refl refl
    c.args.wanted.now c.in-Ok.ensures.ok c.push.new.self c.in_ok-push-in-Ok.ensures.pushed c.in_ok-push-in-Ok.ensures.given c.new.result c.new.ensures.items)

pub returns-in-Err-clause-step : goal.returns-in-Err-clause-step
returns-in-Err-clause-step g c = IfOk-weaker c.refusal_of.result _ _
    (λ answer is. λ schemas world keeps.
    let mid = record c.args.self.now { clients = with_item c.args.self.now.clients c.in-Some.at (record c.index_mut.result.now { peer = c.edit.new.self }) } in
    subst (λ a. Answers schemas world (on_edit schemas c.args.number c.args.wanted.now world) a mid) (sym is.0)
    (subst (λ n. Answers schemas world (on_edit schemas n c.args.wanted.now world) (Err (Edit c.in-Err.fault)) mid) c.in-Some.ensures.found.0
    (edit_refused schemas world c.args.self.now keeps c.in-Some.at c.index_mut.result.now c.in-Some.ensures.found.1 c.index_mut.ensures.value c.edit.new.self mid refl refl refl
    c.args.wanted.now c.in-Err.fault (λ s state stands. c.in-Err.ensures.fault s state stands is.1) c.in-Err.ensures.err)))
    c.refusal_of.ensures

pub returns-in_ok-push-in-Ok-clause-stores : goal.returns-in_ok-push-in-Ok-clause-stores
returns-in_ok-push-in-Ok-clause-stores g c =
    subst (λ n. ChangesOne n (stores_in c.args.self.now) (stores_in c.push.new.self)) c.in-Some.ensures.found.0
    (subst (ChangesOne c.in-Some.at (stores_in c.args.self.now)) (sym c.in_ok-push-in-Ok.ensures.stores)
    (one_changes c.args.self.now c.in-Some.at c.index_mut.result.now (record c.index_mut.result.now { peer = c.edit.new.self })
    c.in-Some.ensures.found.1 c.index_mut.ensures.value WatchAlike c.edit.ensures.views))

pub returns-in-Err-clause-stores : goal.returns-in-Err-clause-stores
returns-in-Err-clause-stores g c = on_ok_anyway c.refusal_of.result _
    (subst (λ n. ChangesOne n (stores_in c.args.self.now)
    (stores_kept (slice_set c.args.self.now.clients.items c.in-Some.at (record c.index_mut.result.now { peer = c.edit.new.self })))) c.in-Some.ensures.found.0
    (one_changes c.args.self.now c.in-Some.at c.index_mut.result.now (record c.index_mut.result.now { peer = c.edit.new.self })
    c.in-Some.ensures.found.1 c.index_mut.ensures.value WatchAlike c.edit.ensures.views))
