use Rattle.std.proofs.Common.{ℕ, true, ◌∙◌, ap, sym, subst}
use Rattle.room_model.specs.Worlds as model
use Rattle.room_model.specs.Worlds.{after_event}
use Rattle.world_laws.specs.Restoring.{ShowsSound}
use Rattle.sync_world.specs.Standing.{Keeps}
use Rattle.sync_world.specs.Answers.{StepsTo, is_spent}
use Rattle.sync_world.specs.declared.world.World.{World}
use Rattle.sync_world.proofs.StepLemmas.{steps_to, goes_back, closing}
use Rattle.sync_world.proofs.SoundLemmas.{still_sound}
use Rattle.sync_world.specs.Viewing.{stores_in, IsSoundAt}
use Rattle.sync_world.proofs.CaughtUpLemmas.{caught_up}
use Rattle.sync_world.proofs.EntryLemmas.{readonly, authored, unauthored}
use Rattle.sync_world.proofs.world.World.step.Goals as goal

pub returns-in-Ok-clause-step : goal.returns-in-Ok-clause-step
returns-in-Ok-clause-step g c = λ schemas world stands.
    let outcome = after_event schemas c.args.trace world c.args.event in
    let old = c.args.self.now.live in
    let new = c.happen.new.self in
    let told = subst (λ o. IsSoundAt o (stores_in new)) c.changed_by-changed.ensures c.tell_sound.ensures in
    let sound : (v : model.World) → Keeps schemas v new → (n : ℕ) → ShowsSound schemas v n =
    λ v keeps. still_sound schemas c.args.event world v old new stands.keeps keeps c.in-Ok.ensures.stores told stands.sound in
    subst (λ b. StepsTo schemas world outcome c.in-Ok.answer (record { live = new; spent = b })) (sym c.is_spent-self.ensures)
    (steps_to schemas world outcome c.in-Ok.answer new stands.sound sound (c.in-Ok.ensures.step schemas world stands.keeps))

pub returns-in-Ok-clause-spends : goal.returns-in-Ok-clause-spends
returns-in-Ok-clause-spends g c = λ is. c.is_spent-self.ensures ∙ ap is_spent is

pub returns-in-Ok-clause-goes_back : goal.returns-in-Ok-clause-goes_back
returns-in-Ok-clause-goes_back g c =
    let new : World = record { live = c.happen.new.self; spent = c.is_spent-self.result } in
    goes_back c.args.trace c.args.event c.args.self.now new c.in-Ok.answer (returns-in-Ok-clause-step g c)

pub returns-in-Ok-clause-closing : goal.returns-in-Ok-clause-closing
returns-in-Ok-clause-closing g c =
    let new : World = record { live = c.happen.new.self; spent = c.is_spent-self.result } in
    closing c.args.trace c.args.event c.args.self.now new c.in-Ok.answer (returns-in-Ok-clause-step g c)

pub returns-in-Ok-clause-caught_up : goal.returns-in-Ok-clause-caught_up
returns-in-Ok-clause-caught_up g c =
    let code : World = record { live = c.happen.new.self; spent = c.is_spent-self.result } in
    caught_up code

pub returns-in-Ok-clause-readonly : goal.returns-in-Ok-clause-readonly
returns-in-Ok-clause-readonly g c =
    let code : World = record { live = c.happen.new.self; spent = c.is_spent-self.result } in
    readonly code

pub returns-in-Ok-clause-authored : goal.returns-in-Ok-clause-authored
returns-in-Ok-clause-authored g c =
    let code : World = record { live = c.happen.new.self; spent = c.is_spent-self.result } in
    authored code

pub returns-in-Ok-clause-unauthored : goal.returns-in-Ok-clause-unauthored
returns-in-Ok-clause-unauthored g c =
    let code : World = record { live = c.happen.new.self; spent = c.is_spent-self.result } in
    unauthored code

pub returns-in-Ok-clause-stores : goal.returns-in-Ok-clause-stores
returns-in-Ok-clause-stores g c = λ going. c.in-Ok.ensures.stores

pub returns-then-self-clause-unauthored : goal.returns-then-self-clause-unauthored
returns-then-self-clause-unauthored g c = unauthored c.args.self.now

pub returns-in-Err-clause-unauthored : goal.returns-in-Err-clause-unauthored
returns-in-Err-clause-unauthored g c = unauthored (record { live = c.happen.new.self; spent = true })
