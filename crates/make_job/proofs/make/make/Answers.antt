use Rattle.std.proofs.Common.{◌≡◌, ◌+◌, ◌*◌, ◌^◌, length, sym, ap, subst, ◌∙◌, arith}
use Rattle.std.proofs.lemmas.Result.{err_from_is_err_and}
use Rattle.make_job.specs.Made.{nothing_made, with_events, with_draws, made_text}
use Rattle.make_job.specs.Making.{IsMaking, HasPlace, AreReady, AddsFront}
use Rattle.make_job.proofs.MadeLemmas.{begun, counted, drawn, drawn_front, begun_front, header_front, makes_front, makes, makes_nothing, anew, adds_whole, whole_front, fewer}
use Rattle.rooms_val.proofs.Truths.{on_ok_so, on_err_so}
use Rattle.make_job.proofs.ReadyLemmas.{first_ready, first_few}
use Rattle.make_job.proofs.make.make.Goals as goal

pub returns-in_err-making-clause-err : goal.returns-in_err-making-clause-err
returns-in_err-making-clause-err g c =
    let p = err_from_is_err_and c.from_residual.result c.from_residual.ensures.1 in
    rw p.1 (makes_nothing c.args.seed c.args.size c.args.print (g.K.Sink.held c.args.sink.now))

pub returns-in_err-write_header-clause-err : goal.returns-in_err-write_header-clause-err
returns-in_err-write_header-clause-err g c =
    let p = err_from_is_err_and c.from_residual-in_err-write_header.result c.from_residual-in_err-write_header.ensures.1 in
    let made = c.in_ok-making.ensures.stands in
    rw p.1 (makes_front made.0 made.1 c.args.seed c.args.size c.args.print _ _ _ c.in_err-write_header.ensures.err (header_front made.0 made.1 c.args.seed c.args.size c.args.print))

pub returns-in_err-first-clause-err : goal.returns-in_err-first-clause-err
returns-in_err-first-clause-err g c =
    let p = err_from_is_err_and c.from_residual-in_err-first.result c.from_residual-in_err-first.ensures.1 in
    let made = c.in_ok-making.ensures.stands in
    rw p.1 (makes_front made.0 made.1 c.args.seed c.args.size c.args.print _ _ _ (adds_whole _ _ _ _ c.in_ok-write_header.ensures.ok (whole_front _)) (header_front made.0 made.1 c.args.seed c.args.size c.args.print))

pub take_all-requires-clause-ready : goal.take_all-requires-clause-ready
take_all-requires-clause-ready g c = subst AreReady (sym c.in_ok-first.ensures) first_ready

pub take_all-requires-clause-place : goal.take_all-requires-clause-place
take_all-requires-clause-place g c =
    let long : length c.in_ok-first.first.items ≡ 30 = ap length c.in_ok-first.ensures ∙ first_few in
    fewer (2 ^ 62) (length c.in_ok-first.first.items) c.in_ok-making.making (omega (arith, long)) c.in_ok-making.ensures.place

pub returns-in_err-take_all-clause-err : goal.returns-in_err-take_all-clause-err
returns-in_err-take_all-clause-err g c =
    let p = err_from_is_err_and c.from_residual-in_err-take_all.result c.from_residual-in_err-take_all.ensures.1 in
    let held = g.K.Sink.held in
    let made = c.in_ok-making.ensures.stands in
    let print = c.args.print in
    let start = made.2 print (held c.args.sink.now) (held c.write_header.new.sink) c.in_ok-write_header.ensures.ok in
    let adds = c.in_err-take_all.ensures.err made.0 (nothing_made print) (held c.args.sink.now) start in
    rw p.1 (makes_front made.0 made.1 c.args.seed c.args.size print _ _ _
    (subst (λ es. AddsFront (with_events print made.0 (nothing_made print) es).text (held c.args.sink.now) (held c.take_all.new.sink)) c.in_ok-first.ensures adds)
    (begun_front made.0 made.1 c.args.seed c.args.size print))

pub draw_all-requires : goal.draw_all-requires
draw_all-requires g c =
    let long : length c.in_ok-first.first.items ≡ 30 = ap length c.in_ok-first.ensures ∙ first_few in
    let fits = c.ranges.size.fits in
    let place = c.in_ok-take_all.ensures.place (2 * c.args.size)
    (fewer (2 ^ 62) (length c.in_ok-first.first.items + 2 * c.args.size) c.in_ok-making.making (omega (arith, long, fits)) c.in_ok-making.ensures.place) in
    subst (HasPlace (2 * c.args.size)) (sym c.count_anew.ensures)
    (record { taken = omega (arith, fits); refused = omega (arith, fits); sessions = place.sessions; last = place.last })

pub returns-in_err-draw_all-clause-err : goal.returns-in_err-draw_all-clause-err
returns-in_err-draw_all-clause-err g c =
    let p = err_from_is_err_and c.from_residual-in_err-draw_all.result c.from_residual-in_err-draw_all.ensures.1 in
    let held = g.K.Sink.held in
    let old = held c.args.sink.now in
    let made = c.in_ok-making.ensures.stands in
    let print = c.args.print in
    let start = made.2 print old (held c.write_header.new.sink) c.in_ok-write_header.ensures.ok in
    let first = subst (λ es. IsMaking made.0 (with_events print made.0 (nothing_made print) es) c.take_all.new.self old (held c.take_all.new.sink)) c.in_ok-first.ensures
    (c.in_ok-take_all.ensures.ok made.0 (nothing_made print) old start) in
    let count = subst (λ x. IsMaking made.0 (counted made.0 made.1 c.args.seed c.args.size print) x old (held c.take_all.new.sink)) (sym c.count_anew.ensures)
    (anew made.0 (begun made.0 made.1 c.args.seed c.args.size print) c.take_all.new.self old (held c.take_all.new.sink) first) in
    let adds = c.in_err-draw_all.ensures.err made.0 (counted made.0 made.1 c.args.seed c.args.size print) old count in
    rw p.1 (makes_front made.0 made.1 c.args.seed c.args.size print _ _ _
    (subst (λ r. AddsFront (with_draws print made.0 c.args.size r (counted made.0 made.1 c.args.seed c.args.size print)).text old (held c.draw_all.new.sink)) c.new-maker.ensures adds)
    (drawn_front made.0 made.1 c.args.seed c.args.size print))

pub returns-clause-ok : goal.returns-clause-ok
returns-clause-ok g c =
    let held = g.K.Sink.held in
    let old = held c.args.sink.now in
    let made = c.in_ok-making.ensures.stands in
    let print = c.args.print in
    let start = made.2 print old (held c.write_header.new.sink) c.in_ok-write_header.ensures.ok in
    let first = subst (λ es. IsMaking made.0 (with_events print made.0 (nothing_made print) es) c.take_all.new.self old (held c.take_all.new.sink)) c.in_ok-first.ensures
    (c.in_ok-take_all.ensures.ok made.0 (nothing_made print) old start) in
    let count = subst (λ x. IsMaking made.0 (counted made.0 made.1 c.args.seed c.args.size print) x old (held c.take_all.new.sink)) (sym c.count_anew.ensures)
    (anew made.0 (begun made.0 made.1 c.args.seed c.args.size print) c.take_all.new.self old (held c.take_all.new.sink) first) in
    let all = subst (λ r. IsMaking made.0 (with_draws print made.0 c.args.size r (counted made.0 made.1 c.args.seed c.args.size print)) c.draw_all.new.making old (held c.draw_all.new.sink)) c.new-maker.ensures
    (c.in_ok-draw_all.ensures.ok made.0 (counted made.0 made.1 c.args.seed c.args.size print) old count) in
    on_ok_so c.end.result _ _ (λ told. makes made.0 made.1 c.args.seed c.args.size print old (held c.end.new.sink) (told made.0 (drawn made.0 made.1 c.args.seed c.args.size print) old all)) c.end.ensures.ok

pub returns-clause-err : goal.returns-clause-err
returns-clause-err g c =
    let held = g.K.Sink.held in
    let old = held c.args.sink.now in
    let made = c.in_ok-making.ensures.stands in
    let print = c.args.print in
    let start = made.2 print old (held c.write_header.new.sink) c.in_ok-write_header.ensures.ok in
    let first = subst (λ es. IsMaking made.0 (with_events print made.0 (nothing_made print) es) c.take_all.new.self old (held c.take_all.new.sink)) c.in_ok-first.ensures
    (c.in_ok-take_all.ensures.ok made.0 (nothing_made print) old start) in
    let count = subst (λ x. IsMaking made.0 (counted made.0 made.1 c.args.seed c.args.size print) x old (held c.take_all.new.sink)) (sym c.count_anew.ensures)
    (anew made.0 (begun made.0 made.1 c.args.seed c.args.size print) c.take_all.new.self old (held c.take_all.new.sink) first) in
    let all = subst (λ r. IsMaking made.0 (with_draws print made.0 c.args.size r (counted made.0 made.1 c.args.seed c.args.size print)) c.draw_all.new.making old (held c.draw_all.new.sink)) c.new-maker.ensures
    (c.in_ok-draw_all.ensures.ok made.0 (counted made.0 made.1 c.args.seed c.args.size print) old count) in
    on_err_so c.end.result _ _
    (λ told. makes_front made.0 made.1 c.args.seed c.args.size print (made_text made.0 c.args.seed c.args.size print) old (held c.end.new.sink)
    (told made.0 (drawn made.0 made.1 c.args.seed c.args.size print) old all) (whole_front (made_text made.0 c.args.seed c.args.size print))) c.end.ensures.err
