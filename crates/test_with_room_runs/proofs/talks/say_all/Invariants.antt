use Rattle.std.proofs.Common.{◌≡◌}
use Rattle.room_run.specs.Passes.{room_of}
use Rattle.room_run.specs.Rooms.{id_of}
use Rattle.test_with_room_runs.proofs.talks.say_all.Given as goal

-- the pass is of the room
abbrev pub invariant-messages : goal.invariant-messages
invariant-messages g l = room_of l.pass ≡ id_of l.fn.room
