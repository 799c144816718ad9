use Rattle.std.proofs.Common.{true, false, refl, subst}
use Rattle.rec_format.specs.Lines.{IsOf, RefusesLine}
use Rattle.rec_format.specs.declared.fault.LineFault.TheVariants as line_fault
use Rattle.rooms_val.specs.Data.{Data}
use Rattle.join_job.specs.Steps.{IsUnscripted}
use Rattle.join_job.specs.Turning.{TellsWhether}
use Rattle.join_job.proofs.StepLemmas.{fault_by}
use Rattle.join_job.proofs.step.step_fault.Goals as goal

pub returns-then-unknown : goal.returns-then-unknown
returns-then-unknown c = λ refuses.
    let line = c.args.line.now in
    fault_by line true (subst (λ b. (d : Data) → IsOf line d → TellsWhether b (IsUnscripted d)) c.if-unknown.true c.in_ok-unknown-in-Field.ensures) line_fault.UnknownEvent refl
    (subst (RefusesLine line) c.in-Field.is refuses)

pub returns-else-unknown : goal.returns-else-unknown
returns-else-unknown c = λ refuses.
    let line = c.args.line.now in
    fault_by line false (subst (λ b. (d : Data) → IsOf line d → TellsWhether b (IsUnscripted d)) c.if-unknown.false c.in_ok-unknown-in-Field.ensures) line_fault.Field refl
    (subst (RefusesLine line) c.in-Field.is refuses)
