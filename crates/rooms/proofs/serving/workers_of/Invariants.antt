use Rattle.std.proofs.Common.{◌≡◌, ◌≤◌, vec_len, vec_capacity}
use Rattle.rooms.proofs.serving.workers_of.Given as goal

-- as many workers are there as turns were made
abbrev pub invariant-workers : goal.invariant-workers
invariant-workers l = (vec_len l.workers ≡ l.counter) × (l.count ≤ vec_capacity l.workers)
