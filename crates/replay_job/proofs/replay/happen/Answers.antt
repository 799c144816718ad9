use Rattle.std.proofs.Common.{◌≡◌, true, false, sym, subst, ◌∙◌}
use Rattle.world_views.specs.Standing.{StepsTo}
use Rattle.world_views.specs.Views.{after_recorded}
use Rattle.replay_job.specs.Taking.{is_end}
use Rattle.replay_job.proofs.TakingLemmas.{becomes_lines, becomes_end, becomes_refusal}
use Rattle.replay_job.proofs.replay.happen.Goals as goal

pub returns-then-ends : goal.returns-then-ends
returns-then-ends g c = λ schemas viewed stands.
    let outcome = after_recorded schemas c.args.trace viewed c.args.event in
    let ends : is_end c.args.event ≡ true = sym c.is_end-ends.ensures ∙ c.if-ends.true in
    becomes_end c.args.trace schemas viewed c.args.event c.step.new.self c.in-Ok.lines ends
    (subst (λ r. StepsTo schemas viewed outcome r c.step.new.self) c.in-Ok.is (c.step.ensures.step schemas viewed stands))

pub returns-else-ends : goal.returns-else-ends
returns-else-ends g c = λ schemas viewed stands.
    let outcome = after_recorded schemas c.args.trace viewed c.args.event in
    let goes_on : is_end c.args.event ≡ false = sym c.is_end-ends.ensures ∙ c.if-ends.false in
    becomes_lines c.args.trace schemas viewed c.args.event c.step.new.self c.in-Ok.lines goes_on
    (subst (λ r. StepsTo schemas viewed outcome r c.step.new.self) c.in-Ok.is (c.step.ensures.step schemas viewed stands))

pub returns-in_ok-step_fault_text-in-Err : goal.returns-in_ok-step_fault_text-in-Err
returns-in_ok-step_fault_text-in-Err g c = λ schemas viewed stands.
    let outcome = after_recorded schemas c.args.trace viewed c.args.event in
    becomes_refusal c.args.trace schemas viewed c.args.event c.step.new.self c.in-Err.fault c.in_ok-step_fault_text-in-Err.field-0 c.in_ok-step_fault_text-in-Err.ensures
    (subst (λ r. StepsTo schemas viewed outcome r c.step.new.self) c.in-Err.is (c.step.ensures.step schemas viewed stands))
