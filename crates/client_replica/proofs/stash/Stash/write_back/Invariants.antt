use Rattle.std.proofs.Common.{◌≡◌, ◌+◌, ◌≤◌, length}
use Rattle.doc_store.specs.Tree.{slots_view}
use Rattle.client_replica.specs.Stashes.{written_over}
use Rattle.client_replica.proofs.stash.Stash.write_back.Given as goal

abbrev pub invariant-loop-id : goal.invariant-loop-id
invariant-loop-id g l =
    let records = g.D.DocStore.records in
    record {
      done : written_over (slots_view l.id-iterator) (records l.store) ≡ written_over l.self (records l.initial.store);
      begun : g.D.DocStore.begun l.store ≡ g.D.DocStore.begun l.initial.store;
      rest : g.D.DocStore.rest l.store ≡ g.D.DocStore.rest l.initial.store;
      ticks : l.steps + length (slots_view l.id-iterator) ≤ l.initial.steps + length l.self;
    }
