use Rattle.std.proofs.Common.{Err, refl, sym, subst, ◌∙◌, inl}
use Rattle.make_job.specs.Outcomes.{IsMakeStatus}
use Rattle.replay_job.proofs.EndingLemmas.{stopped_is_not_read, sink_failed}
use Rattle.make_job.proofs.EndingLemmas.{make_stopped}
use Rattle.make_job.proofs.make.make_job.Goals as goal

pub returns-in-Ok-clause-known : goal.returns-in-Ok-clause-known
returns-in-Ok-clause-known g c = inl refl

pub returns-in-Err-clause-known : goal.returns-in-Err-clause-known
returns-in-Err-clause-known g c = subst IsMakeStatus (sym c.status.ensures) (make_stopped c.in-Err.stop (λ is. c.in-Err.ensures.no_source (λ i. Err (is i))))

pub returns-in-Err-clause-done : goal.returns-in-Err-clause-done
returns-in-Err-clause-done g c = λ zero. absurd (stopped_is_not_read c.in-Err.stop (inl (sym c.status.ensures ∙ zero)))

pub returns-in-Err-clause-stopped : goal.returns-in-Err-clause-stopped
returns-in-Err-clause-stopped g c = λ is. c.in-Err.ensures.err

pub returns-in-Err-clause-sink_failed : goal.returns-in-Err-clause-sink_failed
returns-in-Err-clause-sink_failed g c = λ five. let is = sink_failed c.in-Err.stop (sym c.status.ensures ∙ five) in c.in-Err.ensures.sink_failed (λ i. Err (is i))
