use Rattle.std.proofs.Common.{◌≡◌, List, map, ap, sym, subst, ◌∙◌, Ok, Err}
use Rattle.room_model.specs.Worlds.{after_event}
use Rattle.room_model.specs.declared.fault.StepFault.TheVariants.{OutOfMemory}
use Rattle.rec_format.specs.declared.printed.PrintedLine.{PrintedLine}
use Rattle.rec_format.specs.declared.printed.PrintedLine.TheVariants as printed
use Rattle.world_views.specs.Views.{Viewed, tells, with_made, with_joined}
use Rattle.world_views.specs.Standing.{Keeps, After}
use Rattle.world_views.proofs.EventLemmas.{event_leaves, refusal_of, refused_keeps}
use Rattle.world_views.proofs.viewed.ViewedWorld.happen.Goals as goal

pub returns-in_ok-tell_changed-in-Ok-clause-steps : goal.returns-in_ok-tell_changed-in-Ok-clause-steps
returns-in_ok-tell_changed-in-Ok-clause-steps g c = λ schemas viewed stands.
    let e = c.args.event in
    let new = c.step.new.self in
    let steps = c.in-Ok.ensures.step schemas viewed.world stands.world in
    let made = steps.0 in
    let stores = c.in-Ok.ensures.stores (λ no. absurd (cc no)) in
    let after : Viewed = record { world = made.world; watched = with_joined e viewed.watched } in
    let leaves = event_leaves schemas e c.args.trace viewed made c.args.self.now.world new stands steps.1 steps.3 stores in
    let told = c.in_ok-tell_changed-in-Ok.ensures schemas after (subst (λ o. After schemas o after new) (sym c.changed_by-changed.ensures) leaves) in
    let own = c.in_ok-lines-in-Ok.ensures ∙ ap (λ ls. map printed.World ls) steps.2 in (
      tells schemas (map printed.World made.lines) after,
      ap (with_made schemas e viewed) steps.1,
      told.0 ∙ ap (λ (ls : List PrintedLine). (tells schemas ls after).lines) own,
      subst (λ (ls : List PrintedLine). Keeps schemas (tells schemas ls after).viewed c.tell_changed.new.self.world) own told.1,
    )

pub returns-in-Err-clause-steps : goal.returns-in-Err-clause-steps
returns-in-Err-clause-steps g c = λ schemas viewed stands other.
    let e = c.args.event in
    let fault = c.in-Err.fault in
    let outcome = after_event schemas c.args.trace viewed.world e in
    let refused = refusal_of schemas viewed.world outcome fault c.step.new.self other (c.in-Err.ensures.step schemas viewed.world stands.world) in
    let stores = c.in-Err.ensures.stores (λ same. other (let is : fault ≡ OutOfMemory = cc in is)) in (
      ap (with_made schemas e viewed) refused.0,
      refused_keeps schemas e viewed c.args.self.now.world c.step.new.self stands refused.1 stores,
    )

pub returns-in-Err-clause-spends : goal.returns-in-Err-clause-spends
returns-in-Err-clause-spends g c = λ is. c.in-Err.ensures.spends (let same : Err c.in-Err.fault ≡ Err OutOfMemory = cc in same)
