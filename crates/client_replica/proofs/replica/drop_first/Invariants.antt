use Rattle.std.proofs.Common.{◌≡◌, drop}
use Rattle.client_replica.proofs.replica.drop_first.Given as goal

abbrev pub invariant-loop : goal.invariant-loop
invariant-loop l = l.works.items ≡ drop l.counter l.initial.works.items
