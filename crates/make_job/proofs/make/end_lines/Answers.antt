use Rattle.std.proofs.Common.{false, subst}
use Rattle.room_model.specs.Worlds.{after_event}
use Rattle.room_model.specs.declared.event.Event.TheVariants as event
use Rattle.sync_world.specs.Answers.{StepsTo}
use Rattle.make_job.proofs.MadeLemmas.{said_at_end}
use Rattle.make_job.proofs.make.end_lines.Goals as goal

pub returns-in-Ok : goal.returns-in-Ok
returns-in-Ok g c = λ schemas world stands.
    let steps = subst (λ r. StepsTo schemas world (after_event schemas false world event.End) r c.step.new.self) c.in-Ok.is (c.step.ensures.step schemas world stands) in
    said_at_end schemas world c.in-Ok.lines.items steps.0 steps.2 steps.1
