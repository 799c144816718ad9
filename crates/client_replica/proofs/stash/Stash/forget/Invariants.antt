use Rattle.std.proofs.Common.{◌≡◌, ◌≤◌, length, take}
use Rattle.client_replica.specs.Stashes.{without_all}
use Rattle.client_replica.proofs.stash.Stash.forget.Given as goal

abbrev pub invariant-ids : goal.invariant-ids
invariant-ids l = record {
  gone : without_all l.self (take l.left l.ids) ≡ without_all l.initial.self l.ids;
  within : l.left ≤ length l.ids;
}

abbrev pub decreases-ids : goal.decreases-ids
decreases-ids l = l.left
