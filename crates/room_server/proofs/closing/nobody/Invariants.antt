use Rattle.std.proofs.Common.{◌≡◌, ◌≤◌, [], All, vec_len, vec_capacity}
use Rattle.room_server.proofs.closing.nobody.Given as goal

-- as many lists are there as turns were made, and nobody is in them
abbrev pub invariant-rooms : goal.invariant-rooms
invariant-rooms l = (vec_len l.gones ≡ l.counter) × (l.rooms ≤ vec_capacity l.gones) × All (λ those. those.items ≡ []) l.gones.items
