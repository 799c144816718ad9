use Rattle.std.proofs.Common.{◌≡◌, take}
use Rattle.room_events.proofs.events.RoomEvents.copy.Given as goal

abbrev pub invariant-loop-event : goal.invariant-loop-event
invariant-loop-event l = l.items.items ≡ take l.event-index l.event-items
