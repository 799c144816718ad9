use Rattle.wire_msgs.proofs.EventLemmas.{no_events, further, proper_further}
use Rattle.rooms_val.proofs.RefusalLemmas.{passed_on}
use Rattle.wire_msgs.proofs.events.events_of.Goals as goal

pub returns-in_err-event-clause-refused : goal.returns-in_err-event-clause-refused
returns-in_err-event-clause-refused c =
    passed_on c.from_residual.result c.in_err-event.field-0.0 c.from_residual.ensures.1 (no_events c.args.vals.now c.loop-val.val-index c.val-item.result c.loop-val-test.true c.val-item.is) c.in_err-event.ensures.refused

pub loop-val-preserved : goal.loop-val-preserved
loop-val-preserved c =
    let events = c.loop-val.events in
    let event = c.in_ok-event.event in
    record {
      so_far = further c.args.vals.now c.loop-val.val-index c.val-item.result events c.push.new.self event c.loop-val-test.true c.val-item.is c.loop-val.invariant.so_far c.in_ok-event.ensures.found.0
          c.in_ok-push.ensures.ok;
      proper = proper_further events c.push.new.self event c.loop-val.invariant.proper c.in_ok-event.ensures.found.1 c.in_ok-push.ensures.ok;
    }
