use Rattle.std.proofs.Common.{◌≡◌, ◌≤◌, ◌+◌, ◌++◌, map, reverse, false, Ok, vec_len, vec_capacity}
use Rattle.room_serve.specs.Stations.{tally_of, worker_of}
use Rattle.room_serve.proofs.workers.call_from_the_end.Given as goal

-- the last workers were called, and unless memory was refused their tallies are there
abbrev pub invariant-stations : goal.invariant-stations
invariant-stations g l =
    (l.workers.items ++ map worker_of (reverse l.stations.items) ≡ map worker_of (reverse l.initial.stations.items))
    × (l.refused ≡ false → map Ok l.tallies.items ++ map tally_of (reverse l.stations.items) ≡ map tally_of (reverse l.initial.stations.items))
    × (vec_len l.workers + vec_len l.stations ≤ vec_capacity l.workers)
    × (vec_len l.tallies + vec_len l.stations ≤ vec_capacity l.tallies)

abbrev pub decreases-stations : goal.decreases-stations
decreases-stations g l = vec_len l.stations
