use Rattle.std.proofs.Common.{sym, subst, Err}
use Rattle.std.proofs.lemmas.Result.{IfOk-weaker}
use Rattle.room_model.specs.Worlds.{on_edit, on_paste}
use Rattle.room_model.specs.declared.fault.StepFault.TheVariants.{NoClip, Paste}
use Rattle.clip_content.specs.View.{target_tree}
use Rattle.sync_world.specs.Answers.{Answers}
use Rattle.sync_world.specs.Clips.{IsPasteOf}
use Rattle.sync_world.proofs.ClipLemmas.{paste_nothing, paste_done, paste_refused}
use Rattle.sync_world.proofs.live.Live.paste.Goals as goal

pub returns-in_default-clip-clause-step : goal.returns-in_default-clip-clause-step
returns-in_default-clip-clause-step g c = λ schemas world keeps.
    let target = target_tree c.args.target.now in
    subst (λ n. Answers schemas world (on_paste schemas n target world) (Err NoClip) c.args.self.now) c.in-Some.ensures.found.0
    (paste_nothing schemas world c.args.self.now keeps c.in-Some.at c.index-client.result.now c.in-Some.ensures.found.1 c.index-client.ensures target c.in_default-clip.is)

pub returns-in-Ok-clause-step : goal.returns-in-Ok-clause-step
returns-in-Ok-clause-step g c = IfOk-weaker c.edit.result _ _
    (λ answer edits. λ schemas world keeps.
    let target = target_tree c.args.target.now in
    let new = c.edit.new.self in
    subst (λ n. Answers schemas world (on_paste schemas n target world) answer new) c.in-Some.ensures.found.0
    (paste_done schemas world c.args.self.now keeps c.in-Some.at c.index-client.result.now c.in-Some.ensures.found.1 c.index-client.ensures c.args.target.now c.in-Some-clip.clip c.in-Some-clip.is
    c.in-Ok.wanted (subst (IsPasteOf c.in-Some-clip.clip c.index-client.result.now.peer c.args.target.now) c.in-Ok.is c.in_ok-wanted.ensures) answer new
    (subst (λ n. Answers schemas world (on_edit schemas n c.in-Ok.wanted world) answer new) (sym c.in-Some.ensures.found.0) (edits schemas world keeps))))
    c.edit.ensures.step

pub returns-in-Err-clause-step : goal.returns-in-Err-clause-step
returns-in-Err-clause-step g c = λ schemas world keeps.
    let target = target_tree c.args.target.now in
    subst (λ n. Answers schemas world (on_paste schemas n target world) (Err (Paste c.in-Err.fault)) c.args.self.now) c.in-Some.ensures.found.0
    (paste_refused schemas world c.args.self.now keeps c.in-Some.at c.index-client.result.now c.in-Some.ensures.found.1 c.index-client.ensures c.args.target.now c.in-Some-clip.clip c.in-Some-clip.is
    c.in-Err.fault (subst (IsPasteOf c.in-Some-clip.clip c.index-client.result.now.peer c.args.target.now) c.in-Err.is c.in_ok-wanted.ensures))
