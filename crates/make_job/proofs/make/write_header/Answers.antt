use Rattle.std.proofs.Common.{take, subst, ◌∙◌}
use Rattle.std.proofs.lemmas.Result.{err_from_is_err_and}
use Rattle.room_link.specs.Held.{Extends}
use Rattle.make_job.specs.Made.{if_printed, header_line}
use Rattle.replay_job.proofs.WritingLemmas.{first_bytes}
use Rattle.make_job.proofs.make.write_header.Goals as goal

pub returns-in_err-write_all-clause-err : goal.returns-in_err-write_all-clause-err
returns-in_err-write_all-clause-err g c =
    let p = err_from_is_err_and c.from_residual.result c.from_residual.ensures.1 in
    let held = g.K.Sink.held in
    let text = if_printed c.args.print header_line in
    let took = c.in_err-write_all.ensures.front in
    let is = c.as_bytes.ensures.value ∙ c.header_if.ensures in
    rw p.1 (take took.0 text, first_bytes took.0 text, subst (λ t. Extends (held c.args.sink.now) (held c.write_all.new.sink) (take took.0 t)) is took.1)
