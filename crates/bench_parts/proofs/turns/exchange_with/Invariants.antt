use Rattle.sync_room.specs.Sessions.{IsIn}
use Rattle.bench_parts.proofs.turns.exchange_with.Given as goal

-- the session stays in the room
abbrev pub invariant-drains : goal.invariant-drains
invariant-drains g l = IsIn l.fn.session l.room.sessions
