use Rattle.test_with_room_runs.specs.Casts.{AreOf}
use Rattle.test_with_room_runs.proofs.cast.Cast.fill.Given as goal

abbrev pub invariant-sessions : goal.invariant-sessions
invariant-sessions g l = AreOf l.fn.room l.self
