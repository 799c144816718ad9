use Rattle.std.proofs.Common.{◌≡◌, take}
use Rattle.std.specs.Prelude as std
use Rattle.wire_msgs.specs.Events.{event_val}
use Rattle.wire_msgs.proofs.print.events_val.Given as goal

abbrev pub invariant-loop-event : goal.invariant-loop-event
invariant-loop-event l = l.vals ≡ std.map event_val (take l.event-index l.event-items)
