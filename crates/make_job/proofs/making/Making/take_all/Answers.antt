use Rattle.std.proofs.Common.{◌≡◌, suc, ◌+◌, length, sym, ap, subst, ◌∙◌, arith}
use Rattle.std.proofs.lemmas.Result.{err_from_is_err_and}
use Rattle.make_job.specs.Made.{with_events}
use Rattle.make_job.specs.Making.{HasPlace, AreReady}
use Rattle.make_job.proofs.MadeLemmas.{Goes, goes_on, stops_at, all_gone, fewer, none_left}
use Rattle.make_job.proofs.making.Making.take_all.Goals as goal

pub events-init : goal.events-init
events-init g c =
    let all = c.into_iter-event-iterator.ensures.into_iter_gives.0 in
    record {
      goes = λ schemas m old making. record { so_far = m; making = making; same = ap (with_events c.args.print schemas m) (sym all) };
      ready = subst AreReady (sym all) c.requires.ready;
      place = λ more place. subst (λ es. HasPlace (length es + more) c.args.self.now) (sym all) place;
      faults = omega arith;
    }

pub take-requires-clause-ready : goal.take-requires-clause-ready
take-requires-clause-ready g c = (subst AreReady c.in-Some.ensures.steps.0 c.events.invariant.ready).0

pub take-requires-clause-place : goal.take-requires-clause-place
take-requires-clause-place g c =
    let all = c.args.events.items in
    let left = c.events.event-iterator.rest.items in
    let place = c.events.invariant.place 0 (fewer (length all) (length all + 0) c.args.self.now (omega arith) c.requires.place) in
    let one : length left ≡ suc (length c.next.new.self.rest.items) = ap length c.in-Some.ensures.steps.0 in
    fewer (length left + 0) 1 c.events.self (omega (arith, one)) place

pub returns-in_err-take-clause-err : goal.returns-in_err-take-clause-err
returns-in_err-take-clause-err g c =
    let p = err_from_is_err_and c.from_residual.result c.from_residual.ensures.1 in
    let held = g.K.Sink.held in
    rw p.1 (λ schemas m old making.
    let goes = subst (λ es. Goes c.args.print schemas m c.args.events.items c.events.self es old (held c.events.sink)) c.in-Some.ensures.steps.0 (c.events.invariant.goes schemas m old making) in
    stops_at c.args.print schemas m c.args.events.items c.next.new.self.rest.items c.in-Some.event c.events.self old (held c.events.sink) (held c.take.new.sink) goes (λ n so_far. c.in_err-take.ensures.err schemas n old so_far))

pub events-preserved : goal.events-preserved
events-preserved g c =
    let held = g.K.Sink.held in
    let all = c.args.events.items in
    let rest = c.next.new.self.rest.items in
    let steps = c.in-Some.ensures.steps.0 in
    let one : length c.events.event-iterator.rest.items ≡ suc (length rest) = ap length steps in
    record {
      goes = λ schemas m old making.
          let goes = subst (λ es. Goes c.args.print schemas m all c.events.self es old (held c.events.sink)) steps (c.events.invariant.goes schemas m old making) in
          goes_on c.args.print schemas m all rest c.in-Some.event c.events.self c.take.new.self old (held c.events.sink) (held c.take.new.sink) goes (λ n so_far. c.in_ok-take.ensures.ok schemas n old so_far);
      ready = (subst AreReady steps c.events.invariant.ready).1;
      place = λ more place. c.in_ok-take.ensures.place (length rest + more)
          (fewer (length c.events.event-iterator.rest.items + more) (1 + (length rest + more)) c.events.self (omega (arith, one)) (c.events.invariant.place more place));
      faults = omega (arith, c.events.invariant.faults, c.in_ok-take.ensures.faults_stay);
    }

pub returns-clause-ok : goal.returns-clause-ok
returns-clause-ok g c = λ schemas m old making.
    let held = g.K.Sink.held in
    let left = c.events.event-iterator.rest.items in
    all_gone c.args.print schemas m c.args.events.items left c.events.self old (held c.events.sink) (c.events.invariant.goes schemas m old making)
    (none_left left (sym c.events.event-iterator.rest.ok.0 ∙ c.in-None.ensures.steps.0))

pub returns-clause-place : goal.returns-clause-place
returns-clause-place g c = λ more place.
    let left = c.events.event-iterator.rest.items in
    fewer (length left + more) more c.events.self (omega arith) (c.events.invariant.place more place)
