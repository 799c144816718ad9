use Rattle.std.proofs.Common.{◌≡◌, ◌+◌, ◌≤◌, [], drop}
use Rattle.rooms_val.specs.Maps.{AreRising}
use Rattle.client_replica.proofs.StashLemmas.{without_each}
use Rattle.client_replica.proofs.stepping.clear.Given as goal

-- without the ids that are left no record is left
abbrev pub invariant-ids : goal.invariant-ids
invariant-ids g l =
    record {
      gone : AreRising (g.D.DocStore.records l.initial.store) → without_each (drop l.id-index l.id-items) (g.D.DocStore.records l.store) ≡ [];
      begun : g.D.DocStore.begun l.store ≡ g.D.DocStore.begun l.initial.store;
      rest : g.D.DocStore.rest l.store ≡ g.D.DocStore.rest l.initial.store;
      ticks : l.steps ≤ l.initial.steps + l.id-index;
    }
