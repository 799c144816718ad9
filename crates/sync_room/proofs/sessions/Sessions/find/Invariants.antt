use Rattle.sync_room.proofs.FindLemmas.{IsLeft}
use Rattle.sync_room.proofs.sessions.Sessions.find.Given as goal

-- a session of the number is among those that are left
abbrev pub invariant-sessions : goal.invariant-sessions
invariant-sessions l =
    (goal.iterator-sessions).can_next l.key-iterator ×
    (goal.iterator-sessions).is_finite l.key-iterator ×
    IsLeft l.fn.number l.self l.key-iterator
