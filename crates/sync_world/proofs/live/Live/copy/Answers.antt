use Rattle.std.proofs.Common.{◌≡◌, ◌<◌, refl, sym, subst, Some, Ok, Err}
use Rattle.std.specs.Vec.{with_item}
use Rattle.room_model.specs.Worlds.{on_copy}
use Rattle.room_model.specs.declared.fault.StepFault.TheVariants.{Clip}
use Rattle.sync_world.specs.Answers.{Answers}
use Rattle.sync_world.specs.Clips.{IsCopyOf}
use Rattle.sync_world.specs.declared.live.WorldClient.{WorldClient}
use Rattle.sync_world.proofs.ClipLemmas.{copy_done, copy_refused}
use Rattle.sync_world.proofs.EventLemmas.{same_item}
use Rattle.sync_world.proofs.ViewingLemmas.{same_stores}
use Rattle.sync_world.proofs.live.Live.copy.Goals as goal

pub returns-in-Ok-clause-step : goal.returns-in-Ok-clause-step
returns-in-Ok-clause-step c = λ schemas world keeps.
    let live = c.args.self.now in
    let one = c.index_mut.result.now in
    let new = record live { clients = with_item live.clients c.in-Some.at (record one { clip = Some c.in-Ok.clip }) } in
    let less = subst (λ n. c.in-Some.at < n) live.clients.ok.0 c.in-Some.ensures.found.1 in
    let same = same_item live.clients.items c.in-Some.at c.index.result.now one less c.index.ensures c.index_mut.ensures.value in
    let copies = subst (λ (k : WorldClient). IsCopyOf k.peer c.args.ids.now (Ok c.in-Ok.clip)) same (subst (IsCopyOf c.index.result.now.peer c.args.ids.now) c.in-Ok.is c.in_ok-clip.ensures) in
    subst (λ n. Answers schemas world (on_copy schemas n c.args.ids.now world) (Ok c.new.result) new) c.in-Some.ensures.found.0
    (copy_done schemas world live keeps c.in-Some.at one c.in-Some.ensures.found.1 c.index_mut.ensures.value c.args.ids.now c.in-Ok.clip copies
    new refl refl refl c.new.result c.new.ensures.items)

pub returns-in-Ok-clause-stores : goal.returns-in-Ok-clause-stores
returns-in-Ok-clause-stores c = same_stores c.args.self.now c.in-Some.at c.index_mut.result.now (record c.index_mut.result.now { clip = Some c.in-Ok.clip })
    c.in-Some.ensures.found.1 c.index_mut.ensures.value refl

pub returns-in-Err-clause-step : goal.returns-in-Err-clause-step
returns-in-Err-clause-step c = λ schemas world keeps.
    subst (λ n. Answers schemas world (on_copy schemas n c.args.ids.now world) (Err (Clip c.in-Err.fault)) c.args.self.now) c.in-Some.ensures.found.0
    (copy_refused schemas world c.args.self.now keeps c.in-Some.at c.index.result.now c.in-Some.ensures.found.1 c.index.ensures c.args.ids.now c.in-Err.fault
    (subst (IsCopyOf c.index.result.now.peer c.args.ids.now) c.in-Err.is c.in_ok-clip.ensures))
