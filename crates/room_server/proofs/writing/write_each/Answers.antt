use Rattle.std.proofs.Common.{◌≡◌, ◌++◌, take, subst, sym, arith}
use Rattle.std.proofs.lemmas.Result.{err_from_is_err_and}
use Rattle.room_link.specs.Held.{Extends}
use Rattle.room_link.proofs.HeldLemmas.{Extends-trans}
use Rattle.room_server.proofs.WritingLemmas.{texts, text_more, front_more}
use Rattle.room_server.proofs.writing.write_each.Goals as goal

pub lines-preserved : goal.lines-preserved
lines-preserved g c =
    let held = g.K.Sink.held in
    let lines = c.args.lines.now in
    let i = c.lines.line-index in
    let x = c.line-item.result in
    let is : c.deref.result.now ≡ x.items = c.deref.ensures.value in
    record {
      written = subst (Extends (held c.args.sink.now) (held c.write_all.new.sink)) (sym (text_more lines i x c.lines-test.true c.line-item.is))
          (Extends-trans (held c.args.sink.now) (held c.lines.sink) (held c.write_all.new.sink) (texts (take i lines)) x.items c.lines.invariant.written
          (subst (Extends (held c.lines.sink) (held c.write_all.new.sink)) is c.in_ok-write_all.ensures.held));
      faults_stay = omega (arith, c.lines.invariant.faults_stay, c.in_ok-write_all.ensures.faults_stay);
    }

pub returns-in_err-write_all-clause-err : goal.returns-in_err-write_all-clause-err
returns-in_err-write_all-clause-err g c =
    let held = g.K.Sink.held in
    let p = err_from_is_err_and c.from_residual.result c.from_residual.ensures.1 in
    let lines = c.args.lines.now in
    let i = c.lines.line-index in
    let x = c.line-item.result in
    let is : c.deref.result.now ≡ x.items = c.deref.ensures.value in
    let took = c.in_err-write_all.ensures.front in
    let more = front_more lines i took.0 x c.lines-test.true c.line-item.is in
    rw p.1 (
      texts (take i lines) ++ take took.0 x.items,
      more.0,
      more.1,
      Extends-trans (held c.args.sink.now) (held c.lines.sink) (held c.write_all.new.sink) (texts (take i lines)) (take took.0 x.items) c.lines.invariant.written
          (subst (λ t. Extends (held c.lines.sink) (held c.write_all.new.sink) (take took.0 t)) is took.1),
    )

pub returns-in_err-write_all-clause-failed : goal.returns-in_err-write_all-clause-failed
returns-in_err-write_all-clause-failed g c =
    let p = err_from_is_err_and c.from_residual.result c.from_residual.ensures.1 in
    rw p.1 (omega (arith, c.lines.invariant.faults_stay, c.in_err-write_all.ensures.failed))
