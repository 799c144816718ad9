use Rattle.std.proofs.Common.{◌≡◌, ◌+◌, ◌*◌, ◌-◌, ◌<◌, ◌≤◌, length, sym, ap, subst, ◌∙◌, arith}
use Rattle.std.proofs.lemmas.Result.{err_from_is_err_and}
use Rattle.load_maker.specs.Draws.{draw_of}
use Rattle.load_maker.specs.Made.{events_of}
use Rattle.make_job.specs.Made.{with_draws}
use Rattle.make_job.specs.Making.{AreReady}
use Rattle.make_job.proofs.MadeLemmas.{Draws, draws_on, draws_stop, draws_done, draws_front, fewer}
use Rattle.make_job.proofs.ReadyLemmas.{draw_ready, draw_few}
use Rattle.make_job.proofs.make.draw_all.Goals as goal

pub draws-init : goal.draws-init
draws-init g c =
    let all : c.args.size ≡ c.args.size - 0 = omega arith in
    record {
      goes = λ schemas m old making. record { so_far = m; making = making; same = ap (λ n. with_draws c.args.print schemas n c.args.maker m) all };
      place = fewer (2 * c.args.size) (2 * (c.args.size - 0)) c.args.making.now (omega arith) c.requires;
      faults = omega arith;
    }

pub returns-in_err-events-clause-err : goal.returns-in_err-events-clause-err
returns-in_err-events-clause-err g c =
    let p = err_from_is_err_and c.from_residual.result c.from_residual.ensures.1 in
    rw p.1 (λ schemas m old making.
    draws_front c.args.print schemas m c.args.size c.args.maker c.draws.making (c.args.size - c.draws.counter) c.draws.maker old (g.K.Sink.held c.draws.sink) (c.draws.invariant.goes schemas m old making))

pub take_all-requires-clause-ready : goal.take_all-requires-clause-ready
take_all-requires-clause-ready g c = subst AreReady (sym c.in_ok-events.ensures.events) (draw_ready c.draws.maker c.draws.making.last c.draws.invariant.place.last)

pub take_all-requires-clause-place : goal.take_all-requires-clause-place
take_all-requires-clause-place g c =
    let few : length c.in_ok-events.events.items ≤ 2 =
    subst (λ es. length es ≤ 2) (sym c.in_ok-events.ensures.events) (draw_few (draw_of c.draws.maker).0 c.draws.making.last) in
    let less = c.draws-test.true in
    fewer (2 * (c.args.size - c.draws.counter)) (length c.in_ok-events.events.items) c.draws.making (omega (arith, few, less)) c.draws.invariant.place

pub returns-in_err-take_all-clause-err : goal.returns-in_err-take_all-clause-err
returns-in_err-take_all-clause-err g c =
    let p = err_from_is_err_and c.from_residual-in_err-take_all.result c.from_residual-in_err-take_all.ensures.1 in
    let held = g.K.Sink.held in
    let more : 0 < c.args.size - c.draws.counter = let less = c.draws-test.true in omega arith in
    rw p.1 (λ schemas m old making.
    draws_stop c.args.print schemas m c.args.size c.args.maker c.draws.making (c.args.size - c.draws.counter) c.draws.maker old (held c.draws.sink) (held c.take_all.new.sink)
    c.in_ok-events.events.items more (c.draws.invariant.goes schemas m old making)
    (λ n so_far. (c.in_ok-events.ensures.events ∙ ap (events_of (draw_of c.draws.maker).0) so_far.last)) (λ n so_far. c.in_err-take_all.ensures.err schemas n old so_far))

pub draws-preserved : goal.draws-preserved
draws-preserved g c =
    let held = g.K.Sink.held in
    let less = c.draws-test.true in
    let more : 0 < c.args.size - c.draws.counter = omega arith in
    let one : c.args.size - c.draws.counter - 1 ≡ c.args.size - (c.draws.counter + 1) = omega arith in
    let few : length c.in_ok-events.events.items ≤ 2 =
    subst (λ es. length es ≤ 2) (sym c.in_ok-events.ensures.events) (draw_few (draw_of c.draws.maker).0 c.draws.making.last) in
    record {
      goes = λ schemas m old making.
          subst (λ n. Draws c.args.print schemas m c.args.size c.args.maker c.take_all.new.self n c.draw.new.self old (held c.take_all.new.sink)) one
          (draws_on c.args.print schemas m c.args.size c.args.maker c.draws.making c.take_all.new.self (c.args.size - c.draws.counter) c.draws.maker c.draw.new.self old (held c.draws.sink) (held c.take_all.new.sink)
          c.in_ok-events.events.items more c.in_ok-events.ensures.next (c.draws.invariant.goes schemas m old making)
          (λ n so_far. (c.in_ok-events.ensures.events ∙ ap (events_of (draw_of c.draws.maker).0) so_far.last)) (λ n so_far. c.in_ok-take_all.ensures.ok schemas n old so_far));
      place = c.in_ok-take_all.ensures.place (2 * (c.args.size - (c.draws.counter + 1)))
          (fewer (2 * (c.args.size - c.draws.counter)) (length c.in_ok-events.events.items + 2 * (c.args.size - (c.draws.counter + 1))) c.draws.making (omega (arith, few, less)) c.draws.invariant.place);
      faults = omega (arith, c.draws.invariant.faults, c.in_ok-take_all.ensures.faults_stay);
    }

pub returns-clause-ok : goal.returns-clause-ok
returns-clause-ok g c = λ schemas m old making.
    let none : c.args.size - c.draws.counter ≡ 0 = let more = c.draws-test.false in omega arith in
    draws_done c.args.print schemas m c.args.size c.args.maker c.draws.making (c.args.size - c.draws.counter) c.draws.maker old (g.K.Sink.held c.draws.sink) none (c.draws.invariant.goes schemas m old making)
