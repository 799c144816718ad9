use Rattle.std.proofs.Common.{sym, ◌∙◌}
use Rattle.join_job.proofs.StepLemmas.{unsaid_event}
use Rattle.join_job.proofs.step.read_step.Goals as goal

pub returns-in_default : goal.returns-in_default
returns-in_default c = unsaid_event c.args.line.now c.in_ok-of.field-0 c.in-Ok.event c.in-Ok.ensures.found (sym c.step_of.ensures ∙ c.in_default.is) c.in_ok-of.ensures
