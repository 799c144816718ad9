-- The clients of the versions that were passed have come.
use Rattle.std.proofs.Common.{◌≡◌, map, take}
use Rattle.room_model.specs.declared.event.Event.TheVariants as event
use Rattle.load_maker.proofs.events.clients.Given as goal

abbrev pub invariant-loop-version : goal.invariant-loop-version
invariant-loop-version l = l.events.items ≡ map event.Client (take l.version-index l.version-items)
