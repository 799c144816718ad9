use Rattle.std.proofs.Common.{◌≡◌, ◌⊎◌, sym, subst, ◌∙◌}
use Rattle.replay_job.specs.Endings.{IsReplayStatus}
use Rattle.snapshot_jobs.specs.Endings.{RestoresAll}
use Rattle.snapshot_jobs.proofs.StatusLemmas.{status_known, of_source, of_sink, restored_all, restored_front}
use Rattle.snapshot_jobs.proofs.restore.restore_job.Goals as goal

pub returns-clause-known : goal.returns-clause-known
returns-clause-known g c = subst IsReplayStatus (sym c.status.ensures) (status_known c.restore.result)

pub returns-clause-done : goal.returns-clause-done
returns-clause-done g c = λ read.
    let left = g.S.Source.left c.args.source.now in
    let old = g.K.Sink.held c.args.sink.now in
    let new = g.K.Sink.held c.restore.new.sink in
    subst (λ s. RestoresAll left s old new) (sym c.status.ensures) (restored_all left old new c.restore.result (subst (λ s. (s ≡ 0) ⊎ (s ≡ 3)) c.status.ensures read) c.restore.ensures.leaves)

pub returns-clause-stopped : goal.returns-clause-stopped
returns-clause-stopped g c = λ stopped.
    restored_front (g.S.Source.left c.args.source.now) (g.K.Sink.held c.args.sink.now) (g.K.Sink.held c.restore.new.sink) c.restore.result
    (subst (λ s. (s ≡ 4) ⊎ (s ≡ 5) ⊎ (s ≡ 6)) c.status.ensures stopped) c.restore.ensures.leaves

pub returns-clause-source_failed : goal.returns-clause-source_failed
returns-clause-source_failed g c = λ four. c.restore.ensures.source_failed (of_source c.restore.result (sym c.status.ensures ∙ four))

pub returns-clause-sink_failed : goal.returns-clause-sink_failed
returns-clause-sink_failed g c = λ five. c.restore.ensures.sink_failed (of_sink c.restore.result (sym c.status.ensures ∙ five))
