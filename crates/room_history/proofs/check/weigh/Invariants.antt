use Rattle.std.proofs.Common.{◌≡◌, ◌≤◌, ◌+◌, ◌-◌, ◌^◌, min, sum, map, drop}
use Rattle.rooms_val.specs.View.{data_of}
use Rattle.rooms_val.specs.Weight.{weight}
use Rattle.room_history.proofs.check.weigh.Given as goal

-- what was weighed and what is left weigh together what all weigh
abbrev pub invariant-records : goal.invariant-records
invariant-records l = (l.total ≤ 2 ^ 64 - 1) × (min (l.total + sum (map (λ r. weight (data_of r.record)) (drop l.saved-index l.documents))) (2 ^ 64 - 1) ≡ min (sum (map (λ r. weight (data_of r.record)) l.documents)) (2 ^ 64 - 1))
