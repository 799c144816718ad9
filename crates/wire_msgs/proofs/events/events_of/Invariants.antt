use Rattle.std.proofs.Common.{◌≡◌, take}
use Rattle.std.specs.Prelude as std
use Rattle.rooms_val.specs.View.{items_view}
use Rattle.wire_msgs.specs.Events.{event_val, AreProperEvents}
use Rattle.wire_msgs.proofs.events.events_of.Given as goal

abbrev pub invariant-loop-val : goal.invariant-loop-val
invariant-loop-val l = record {
  so_far : items_view (take l.val-index l.vals) ≡ std.map event_val l.events;
  proper : AreProperEvents l.events;
}
