use Rattle.std.proofs.Common.{◌≡◌, ◌≤◌, ◌+◌, ◌++◌, map, reverse, vec_len, vec_capacity}
use Rattle.room_serve.specs.Stations.{worker_of}
use Rattle.room_serve.proofs.workers.send_from_the_end.Given as goal

-- the last workers were sent, and there is place for the others
abbrev pub invariant-workers : goal.invariant-workers
invariant-workers g l =
    (map worker_of l.stations.items ++ reverse l.workers.items ≡ map worker_of l.initial.stations.items ++ reverse l.initial.workers.items)
    × (vec_capacity l.workers ≡ vec_capacity l.initial.workers)
    × (vec_len l.stations + vec_len l.workers ≤ vec_capacity l.stations)

abbrev pub decreases-workers : goal.decreases-workers
decreases-workers g l = vec_len l.workers
