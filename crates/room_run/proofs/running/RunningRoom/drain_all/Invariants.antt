use Rattle.std.proofs.Common.{◌≡◌}
use Rattle.room_run.specs.Calls.{given}
use Rattle.room_run.specs.Turn.{IsReady, Added}
use Rattle.room_run.proofs.running.RunningRoom.drain_all.Given as goal

-- what was given so far stands in the pen
abbrev pub invariant-drains : goal.invariant-drains
invariant-drains g l =
    (l.seat.table_id ≡ l.initial.seat.table_id)
    × IsReady l.fn.number l.seat.me l.held
    × Added l.initial.seat.me.0 l.seat.me.0 (given l.fn.number l.outs.items)
