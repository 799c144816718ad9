use Rattle.test_with_room_runs.specs.Casts.{AreOf}
use Rattle.test_with_room_runs.proofs.scripts.difference_in.Given as goal

abbrev pub invariant-rows : goal.invariant-rows
invariant-rows g l = AreOf l.fn.room l.cast
