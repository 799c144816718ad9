use Rattle.std.proofs.Common.{◌≡◌, map, take}
use Rattle.room_messages.specs.Results.{bare}
use Rattle.room_messages.proofs.updates_message.bare_results.Given as goal

-- the results of the pushes so far
abbrev pub invariant-pushes : goal.invariant-pushes
invariant-pushes l = l.events ≡ map (bare l.clock) (take l.number-index l.pushed)
