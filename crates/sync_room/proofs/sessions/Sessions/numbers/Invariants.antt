use Rattle.std.proofs.Common.{◌≡◌, ◌++◌, map}
use Rattle.slab.specs.Slab.{entries}
use Rattle.sync_room.proofs.sessions.Sessions.numbers.Given as goal

-- the numbers so far, and those of the sessions that are left
abbrev pub invariant-sessions : goal.invariant-sessions
invariant-sessions l =
    (goal.iterator-sessions).can_next l._key-iterator ×
    (goal.iterator-sessions).is_finite l._key-iterator ×
    (l.numbers.items ++ map (λ entry. entry.1.number) l._key-iterator ≡ map (λ entry. entry.1.number) (entries l.self.present))
