use Rattle.std.proofs.Common.{◌≡◌, ◌≤◌, length, take, drop, List}
use Rattle.std.specs.Prelude.{sum_by}
use Rattle.room_model.specs.Replicas.{Work}
use Rattle.client_replica.specs.Works.{ended_by}
use Rattle.sync_client.specs.Numbers.{numbered}
use Rattle.sync_client.specs.Faults.{events_fault, clock_after}
use Rattle.sync_client.proofs.check.check_events.Given as goal

abbrev pub invariant-events : goal.invariant-events
invariant-events l = record {
  fault : (works : List Work) → l.sent ≤ length works
      → events_fault (numbered l.first l.sent works) l.fn.reached l.events ≡ events_fault (drop l.checked.ended (numbered l.first l.sent works)) l.checked.clock (drop l.event-index l.events);
  ended : l.checked.ended ≡ sum_by ended_by (take l.event-index l.events);
  within : l.checked.ended ≤ l.sent;
  clock : l.checked.clock ≡ clock_after l.fn.reached (take l.event-index l.events);
}
