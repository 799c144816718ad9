use Rattle.std.proofs.Common.{◌≡◌, ◌≤◌, ◌-◌, map, drop}
use Rattle.client_replica.specs.Works.{work_of, diffs_in}
use Rattle.client_replica.specs.Stashes.{AreCounted}
use Rattle.client_replica.proofs.own.forget_first.Given as goal

abbrev pub invariant-works : goal.invariant-works
invariant-works l = record {
  counted : AreCounted (diffs_in (map work_of l.works.items)) l.initial.names → AreCounted (diffs_in (map work_of (drop l.place l.works.items))) l.names;
  within : l.place ≤ l.count;
}

abbrev pub decreases-works : goal.decreases-works
decreases-works l = l.count - l.place
