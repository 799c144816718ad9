use Rattle.std.proofs.Common.{◌∙◌, ap, sym, refl, subst, Ok, Err}
use Rattle.std.proofs.lemmas.Result.{IfOk-weaker}
use Rattle.std.specs.Vec.{with_item}
use Rattle.rooms_val.specs.View.{data_of}
use Rattle.room_model.specs.Worlds.{on_presence}
use Rattle.room_model.specs.declared.fault.StepFault.TheVariants.{Edit}
use Rattle.sync_world.specs.Answers.{Answers}
use Rattle.sync_world.proofs.PresenceLemmas.{presence_done, presence_refused}
use Rattle.sync_world.proofs.ViewingLemmas.{same_stores}
use Rattle.rooms_val.proofs.Truths.{on_ok_anyway}
use Rattle.sync_world.proofs.live.Live.presence.Goals as goal

pub returns-in_ok-push-in-Ok-clause-step : goal.returns-in_ok-push-in-Ok-clause-step
returns-in_ok-push-in-Ok-clause-step c = λ schemas world keeps.
    subst (λ n. Answers schemas world (on_presence schemas n (data_of c.args.stored) world) (Ok c.new.result) c.push.new.self) c.in-Some.ensures.found.0
    (presence_done schemas world c.args.self.now keeps c.in-Some.at c.index_mut.result.now c.in-Some.ensures.found.1 c.index_mut.ensures.value c.presence.new.self _ refl refl refl
    c.args.stored c.in-Ok.ensures.fault c.in-Ok.ensures.ok c.push.new.self c.in_ok-push-in-Ok.ensures.pushed c.in_ok-push-in-Ok.ensures.given c.new.result c.new.ensures.items)

pub returns-in-Err-clause-step : goal.returns-in-Err-clause-step
returns-in-Err-clause-step c = IfOk-weaker c.refusal_of.result _ _
    (λ answer is. λ schemas world keeps.
    let mid = record c.args.self.now { clients = with_item c.args.self.now.clients c.in-Some.at (record c.index_mut.result.now { peer = c.presence.new.self }) } in
    let fault = c.edit_fault.result in
    subst (λ a. Answers schemas world (on_presence schemas c.args.number (data_of c.args.stored) world) a mid) (sym is.0)
    (subst (λ n. Answers schemas world (on_presence schemas n (data_of c.args.stored) world) (Err (Edit fault)) mid) c.in-Some.ensures.found.0
    (presence_refused schemas world c.args.self.now keeps c.in-Some.at c.index_mut.result.now c.in-Some.ensures.found.1 c.index_mut.ensures.value c.presence.new.self mid refl refl refl
    c.args.stored fault (λ s state stands. c.in-Err.ensures.fault s state stands (λ oom. is.1 (c.edit_fault.ensures ∙ oom)) ∙ ap (λ f. Err f) (sym c.edit_fault.ensures)) c.in-Err.ensures.err)))
    c.refusal_of.ensures

pub returns-in_ok-push-in-Ok-clause-stores : goal.returns-in_ok-push-in-Ok-clause-stores
returns-in_ok-push-in-Ok-clause-stores c =
    c.in_ok-push-in-Ok.ensures.stores
    ∙ same_stores c.args.self.now c.in-Some.at c.index_mut.result.now (record c.index_mut.result.now { peer = c.presence.new.self })
    c.in-Some.ensures.found.1 c.index_mut.ensures.value c.presence.ensures.store

pub returns-in-Err-clause-stores : goal.returns-in-Err-clause-stores
returns-in-Err-clause-stores c = on_ok_anyway c.refusal_of.result _
    (same_stores c.args.self.now c.in-Some.at c.index_mut.result.now (record c.index_mut.result.now { peer = c.presence.new.self })
    c.in-Some.ensures.found.1 c.index_mut.ensures.value c.presence.ensures.store)
