use Rattle.std.proofs.Common.{◌≡◌, ◌⊎◌, option_map, sym, ap, subst, ◌∙◌, inl, inr}
use Rattle.replay_job.specs.Replay.{all_of}
use Rattle.replay_job.specs.Endings.{IsReplayStatus, WritesAll, Leaves}
use Rattle.replay_job.proofs.EndingLemmas.{read_status, stopped_status, read_is_not_stopped, stopped_is_not_read}
use Rattle.replay_job.proofs.CaughtUpLemmas.{told_print, answered_show}
use Rattle.replay_job.proofs.play.replay_job.Goals as goal

pub returns-in-Ok-clause-known : goal.returns-in-Ok-clause-known
returns-in-Ok-clause-known g c = subst IsReplayStatus (sym c.status.ensures) (read_status c.in-Ok.end)

pub returns-in-Ok-clause-done : goal.returns-in-Ok-clause-done
returns-in-Ok-clause-done g c = λ is.
    let rest = option_map all_of (g.S.Source.left c.args.source.now) in
    let held = g.K.Sink.held in
    let world = c.play.new.replay.world in
    let leaves = subst (λ r. Leaves c.args.trace rest r world (held c.args.sink.now) (held c.play.new.sink)) c.in-Ok.is
    (subst (λ t. Leaves t rest c.play.result world (held c.args.sink.now) (held c.play.new.sink)) (ap (λ r. r.trace) c.new-replay.ensures) c.play.ensures.leaves) in
    subst (λ s. WritesAll c.args.trace (g.S.Source.left c.args.source.now) s world (held c.args.sink.now) (held c.play.new.sink)) (sym c.status.ensures) leaves

pub returns-in-Ok-clause-stopped : goal.returns-in-Ok-clause-stopped
returns-in-Ok-clause-stopped g c = λ is. absurd (read_is_not_stopped c.in-Ok.end (subst (λ s. (s ≡ 4) ⊎ (s ≡ 5) ⊎ (s ≡ 6)) c.status.ensures is))

pub returns-in-Ok-clause-no_world : goal.returns-in-Ok-clause-no_world
returns-in-Ok-clause-no_world g c = λ is. absurd (read_is_not_stopped c.in-Ok.end (subst (λ s. (s ≡ 4) ⊎ (s ≡ 5) ⊎ (s ≡ 6)) c.status.ensures is))

pub returns-in-Ok-clause-source_failed : goal.returns-in-Ok-clause-source_failed
returns-in-Ok-clause-source_failed g c = λ is. absurd (read_is_not_stopped c.in-Ok.end (inl (sym c.status.ensures ∙ is)))

pub returns-in-Ok-clause-sink_failed : goal.returns-in-Ok-clause-sink_failed
returns-in-Ok-clause-sink_failed g c = λ is. absurd (read_is_not_stopped c.in-Ok.end (inr (inl (sym c.status.ensures ∙ is))))

pub returns-in-Err-clause-known : goal.returns-in-Err-clause-known
returns-in-Err-clause-known g c = subst IsReplayStatus (sym c.status-in-Err.ensures) (stopped_status c.in-Err.stop)

pub returns-in-Err-clause-done : goal.returns-in-Err-clause-done
returns-in-Err-clause-done g c = λ is. absurd (stopped_is_not_read c.in-Err.stop (subst (λ s. (s ≡ 0) ⊎ (s ≡ 3)) c.status-in-Err.ensures is))

pub returns-in-Err-clause-stopped : goal.returns-in-Err-clause-stopped
returns-in-Err-clause-stopped g c = λ is.
    let rest = option_map all_of (g.S.Source.left c.args.source.now) in
    let held = g.K.Sink.held in
    let world = c.play.new.replay.world in
    subst (λ r. Leaves c.args.trace rest r world (held c.args.sink.now) (held c.play.new.sink)) c.in-Err.is
    (subst (λ t. Leaves t rest c.play.result world (held c.args.sink.now) (held c.play.new.sink)) (ap (λ r. r.trace) c.new-replay.ensures) c.play.ensures.leaves)

pub returns-in-Ok-clause-shown : goal.returns-in-Ok-clause-shown
returns-in-Ok-clause-shown g c = told_print c.args.trace (g.S.Source.left c.args.source.now)

pub returns-in-Err-clause-shown : goal.returns-in-Err-clause-shown
returns-in-Err-clause-shown g c = told_print c.args.trace (g.S.Source.left c.args.source.now)

pub returns-in-Ok-clause-caught_up : goal.returns-in-Ok-clause-caught_up
returns-in-Ok-clause-caught_up g c = answered_show c.play.new.replay.world
