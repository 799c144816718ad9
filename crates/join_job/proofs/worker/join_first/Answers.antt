use Rattle.std.proofs.Common.{arith}
use Rattle.std.proofs.lemmas.Bool.Decides.{nat_tests}
use Rattle.std.proofs.lemmas.List.{nil_from_length}
use Rattle.join_job.proofs.WorkingLemmas.{is_some, played_without, played_over_some, failed_first}
use Rattle.join_job.proofs.worker.join_first.Goals as goal

pub returns-then-is_empty-clause-played : goal.returns-then-is_empty-clause-played
returns-then-is_empty-clause-played g c = λ schemas tables.
    played_without g.A.Link.Link.faults g.A.Link.Link.told g.A.Accept.told c.args.room (g.S.Source.left c.args.source.now) (g.W.Sink.held c.args.sink.now) (g.W.Sink.held c.join_ended.new.sink) c.join_ended.result schemas
    c.args.workers.now.items (nil_from_length _ (grind (arith, nat_tests, c.is_empty.ensures, c.if-is_empty.true, c.args.workers.now.ok.0))) (c.join_ended.ensures.played schemas tables)

pub returns-clause-played : goal.returns-clause-played
returns-clause-played g c =
    played_over_some g.A.Link.Link.faults g.A.Link.Link.told g.A.Accept.told c.args.room (g.S.Source.left c.args.source.now) (g.W.Sink.held c.args.sink.now) (g.W.Sink.held c.join_next.new.sink) c.join_next.result
    c.args.workers.now.items c.index_mut.result.now c.join_next.new.worker (is_some c.args.workers.now.items (λ zero. absurd (grind (arith, nat_tests, c.is_empty.ensures, c.if-is_empty.false, c.args.workers.now.ok.0, zero)))) c.index_mut.ensures.value c.join_next.ensures.played

pub returns-clause-failed : goal.returns-clause-failed
returns-clause-failed g c = λ none.
    let all = c.join_next.ensures.failed none in (
      failed_first g.A.Link.Link.faults g.A.Link.Link.told g.A.Accept.told c.args.room (g.S.Source.left c.args.source.now) (g.W.Sink.held c.args.sink.now) (g.W.Sink.held c.join_next.new.sink) g.A.Accept.faults
          c.args.workers.now.items c.index_mut.result.now c.join_next.new.worker (is_some c.args.workers.now.items (λ zero. absurd (grind (arith, nat_tests, c.is_empty.ensures, c.if-is_empty.false, c.args.workers.now.ok.0, zero)))) c.index_mut.ensures.value all.0 all.1,
      all.2,
      all.3,
    )
