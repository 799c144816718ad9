use Rattle.std.proofs.Common.{◌≡◌, ◌++◌, take, subst, sym, ◌∙◌, arith}
use Rattle.std.proofs.lemmas.Result.{err_from_is_err_and}
use Rattle.room_link.specs.Held.{Extends}
use Rattle.room_link.proofs.HeldLemmas.{Extends-trans}
use Rattle.rec_format.specs.Printed.{printed_text}
use Rattle.replay_job.specs.Texts.{lines_text, written_line}
use Rattle.replay_job.proofs.WritingLemmas.{front_of_lines, front_more, text_more, first_bytes}
use Rattle.replay_job.proofs.writing.write_lines.Goals as goal

pub returns-in_err-text-clause-err : goal.returns-in_err-text-clause-err
returns-in_err-text-clause-err g c =
    let p = err_from_is_err_and c.from_residual.result c.from_residual.ensures.1 in
    let i = c.lines.line-index in
    rw p.1 (lines_text (take i c.args.lines.now), front_of_lines i c.args.lines.now, c.lines.invariant.written)

pub returns-in_err-write_all-clause-err : goal.returns-in_err-write_all-clause-err
returns-in_err-write_all-clause-err g c =
    let held = g.K.Sink.held in
    let p = err_from_is_err_and c.from_residual-in_err-write_all.result c.from_residual-in_err-write_all.ensures.1 in
    let lines = c.args.lines.now in
    let i = c.lines.line-index in
    let x = c.line-item.result in
    let text = written_line (printed_text x) in
    let took = c.in_err-write_all.ensures.front in
    let is : c.deref.result.now ≡ text = c.deref.ensures.value ∙ c.in_ok-text.ensures in
    let front = take took.0 text in
    rw p.1 (
      lines_text (take i lines) ++ front,
      front_more lines i x front c.lines-test.true c.line-item.is (first_bytes took.0 text),
      Extends-trans (held c.args.sink.now) (held c.lines.sink) (held c.write_all.new.sink) (lines_text (take i lines)) front c.lines.invariant.written
          (subst (λ t. Extends (held c.lines.sink) (held c.write_all.new.sink) (take took.0 t)) is took.1),
    )

pub lines-preserved : goal.lines-preserved
lines-preserved g c =
    let held = g.K.Sink.held in
    let lines = c.args.lines.now in
    let i = c.lines.line-index in
    let x = c.line-item.result in
    let text = written_line (printed_text x) in
    let is : c.deref.result.now ≡ text = c.deref.ensures.value ∙ c.in_ok-text.ensures in
    record {
      written = subst (Extends (held c.args.sink.now) (held c.write_all.new.sink)) (sym (text_more lines i x c.lines-test.true c.line-item.is))
          (Extends-trans (held c.args.sink.now) (held c.lines.sink) (held c.write_all.new.sink) (lines_text (take i lines)) text c.lines.invariant.written
          (subst (Extends (held c.lines.sink) (held c.write_all.new.sink)) is c.in_ok-write_all.ensures.held));
      faults_stay = omega (arith, c.lines.invariant.faults_stay, c.in_ok-write_all.ensures.faults_stay);
    }
