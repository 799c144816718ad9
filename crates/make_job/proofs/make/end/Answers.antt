use Rattle.std.proofs.Common.{◌++◌, length, take, ap, subst, ◌∙◌}
use Rattle.std.proofs.lemmas.Result.{err_from_is_err_and}
use Rattle.room_model.specs.Schemas.{doc, pres}
use Rattle.room_model.specs.Histories.{records_of}
use Rattle.room_link.specs.Held.{Extends}
use Rattle.room_link.proofs.HeldLemmas.{Extends-trans}
use Rattle.make_job.specs.Made.{last_line, last_line_of}
use Rattle.make_job.proofs.MadeLemmas.{adds_whole, adds_behind, front_of_more, last_is}
use Rattle.replay_job.proofs.WritingLemmas.{first_bytes}
use Rattle.make_job.proofs.make.end.Goals as goal

pub returns-in_err-lines-clause-err : goal.returns-in_err-lines-clause-err
returns-in_err-lines-clause-err g c =
    let p = err_from_is_err_and c.from_residual.result c.from_residual.ensures.1 in
    let held = g.K.Sink.held c.args.sink.now in
    rw p.1 (λ schemas m old making.
    let last = last_line schemas c.args.size c.args.print m in adds_whole m.text (m.text ++ last) old held making.written (front_of_more m.text last))

pub returns-in_err-line-clause-err : goal.returns-in_err-line-clause-err
returns-in_err-line-clause-err g c =
    let p = err_from_is_err_and c.from_residual-in_err-line.result c.from_residual-in_err-line.ensures.1 in
    let held = g.K.Sink.held c.args.sink.now in
    rw p.1 (λ schemas m old making.
    let last = last_line schemas c.args.size c.args.print m in adds_whole m.text (m.text ++ last) old held making.written (front_of_more m.text last))

pub returns-in_err-write_all-clause-err : goal.returns-in_err-write_all-clause-err
returns-in_err-write_all-clause-err g c =
    let p = err_from_is_err_and c.from_residual-in_err-write_all.result c.from_residual-in_err-write_all.ensures.1 in
    let held = g.K.Sink.held in
    let took = c.in_err-write_all.ensures.front in
    rw p.1 (λ schemas m old making.
    let history = m.world.room.history in
    let said = c.closing_of.ensures (length history) (doc schemas.room (records_of history)) (pres schemas.room (records_of history))
    (c.deref.ensures.value ∙ c.in_ok-lines.ensures schemas m.world making.world) in
    let line = c.deref-2.ensures.value ∙ c.in_ok-line.ensures
    ∙ ap (λ n. last_line_of c.args.print n c.args.size c.closing_of.result.records c.args.making.refused c.args.making.taken) said.0
    ∙ last_is schemas c.args.size c.args.print m c.closing_of.result.records c.args.making.refused c.args.making.taken said.1 making.refused making.taken in
    let last = last_line schemas c.args.size c.args.print m in
    adds_behind m.text last (take took.0 last) old (held c.args.sink.now) (held c.write_all.new.sink) making.written (first_bytes took.0 last)
    (subst (λ l. Extends (held c.args.sink.now) (held c.write_all.new.sink) (take took.0 l)) line took.1))

pub returns-clause-ok : goal.returns-clause-ok
returns-clause-ok g c = λ schemas m old making.
    let held = g.K.Sink.held in
    let history = m.world.room.history in
    let said = c.closing_of.ensures (length history) (doc schemas.room (records_of history)) (pres schemas.room (records_of history))
    (c.deref.ensures.value ∙ c.in_ok-lines.ensures schemas m.world making.world) in
    let line = c.deref-2.ensures.value ∙ c.in_ok-line.ensures
    ∙ ap (λ n. last_line_of c.args.print n c.args.size c.closing_of.result.records c.args.making.refused c.args.making.taken) said.0
    ∙ last_is schemas c.args.size c.args.print m c.closing_of.result.records c.args.making.refused c.args.making.taken said.1 making.refused making.taken in
    Extends-trans old (held c.args.sink.now) (held c.write_all.new.sink) m.text (last_line schemas c.args.size c.args.print m) making.written
    (subst (Extends (held c.args.sink.now) (held c.write_all.new.sink)) line c.in_ok-write_all.ensures.held)
