use Rattle.std.proofs.Common.{◌≡◌, subst, sym, ◌∙◌}
use Rattle.std.specs.Prelude.{◌≢◌}
use Rattle.join_job.specs.Working.{PlaysOverWorkers, IsJoinStatus}
use Rattle.join_job.proofs.WorkingLemmas.{is_known, is_failed, is_unread, is_unwritten, played_over_workers}
use Rattle.join_job.proofs.worker.join_job.Goals as goal

pub returns-clause-known : goal.returns-clause-known
returns-clause-known g c = subst (λ s. IsJoinStatus s) (sym c.status_of.ensures) (is_known c.join_first.result)

pub returns-clause-played : goal.returns-clause-played
returns-clause-played g c = λ other.
    let held = g.W.Sink.held in
    let is = c.status_of.ensures in
    subst (λ s. PlaysOverWorkers g.A.Link.Link.faults g.A.Link.Link.told g.A.Accept.told c.args.room (g.S.Source.left c.args.source.now) (held c.args.sink.now) (held c.join_first.new.sink) s c.args.workers.now.items c.join_first.new.workers.items)
    (sym is)
    (played_over_workers g.A.Link.Link.faults g.A.Link.Link.told g.A.Accept.told c.args.room (g.S.Source.left c.args.source.now) (held c.args.sink.now) (held c.join_first.new.sink) c.join_first.result c.args.workers.now.items c.join_first.new.workers.items
    c.join_first.ensures.played (λ seven. other (is ∙ seven)))

pub returns-clause-failed : goal.returns-clause-failed
returns-clause-failed g c = λ seven. c.join_first.ensures.failed (is_failed c.join_first.result (sym c.status_of.ensures ∙ seven))

pub returns-clause-read_failed : goal.returns-clause-read_failed
returns-clause-read_failed g c = λ four. c.join_first.ensures.read_failed (is_unread c.join_first.result (sym c.status_of.ensures ∙ four))

pub returns-clause-write_failed : goal.returns-clause-write_failed
returns-clause-write_failed g c = λ five. c.join_first.ensures.write_failed (is_unwritten c.join_first.result (sym c.status_of.ensures ∙ five))
