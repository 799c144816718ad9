use Rattle.sync_room.proofs.FirstLemmas.{IsSoFar}
use Rattle.sync_room.proofs.sessions.Sessions.first_behind.Given as goal

-- the least of those that were passed
abbrev pub invariant-loop-key : goal.invariant-loop-key
invariant-loop-key l =
    (goal.iterator-loop-key).can_next l.key-iterator ×
    (goal.iterator-loop-key).is_finite l.key-iterator ×
    IsSoFar l.fn.clock l.self l.first l.key-iterator
