use Rattle.std.specs.Prelude.{◌≡◌}
use Rattle.room_run.specs.Passes.{room_of}
use Rattle.room_run.specs.Rooms.{id_of}
use Rattle.test_with_served.proofs.visitor.Visitor.visit.Given as goal

-- the pass stays of the room
abbrev pub invariant-says : goal.invariant-says
invariant-says g l = room_of l.pass ≡ id_of l.fn.self.room.now
