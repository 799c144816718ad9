use Rattle.std.proofs.Common.{◌≡◌, ◌+◌, ◌-◌, ◌≤◌, ◌||◌, ℕ, List, length, map, drop}
use Rattle.std.specs.Prelude.{is_some}
use Rattle.rooms_val.specs.Maps.{value_at, AreRising}
use Rattle.schema_core.specs.Admits.{is_admitted}
use Rattle.schema_core.specs.SchemaOf.{schema_tree}
use Rattle.doc_model.specs.Documents.{replay}
use Rattle.client_replica.specs.Works.{work_of, diffs_in, operations}
use Rattle.client_replica.specs.Stashes.{under, is_named}
use Rattle.client_replica.proofs.replay.replay.Given as goal

abbrev pub invariant-works : goal.invariant-works
invariant-works g l =
    let admits = is_admitted (schema_tree l.fn.schema) in
    let records = g.D.DocStore.records in
    let left = diffs_in (map work_of (drop l.place l.works.items)) in
    let all = diffs_in (map work_of (drop l.fn.from l.works.items)) in
    record {
      done : replay admits (records l.store) left ≡ replay admits (records l.initial.store) all;
      base : (q : List ℕ) → under l.stash (records l.store) q ≡ value_at (records l.initial.store) q;
      exact : (q : List ℕ) → is_some (value_at l.stash q) || is_named left q ≡ is_named all q;
      few : length l.stash + operations left ≤ operations all;
      rising : AreRising l.stash;
      begun : g.D.DocStore.begun l.store ≡ g.D.DocStore.begun l.initial.store;
      rest : g.D.DocStore.rest l.store ≡ g.D.DocStore.rest l.initial.store;
      ticks : l.steps + operations left ≤ l.initial.steps + operations all;
    }

abbrev pub decreases-works : goal.decreases-works
decreases-works g l = length l.works.items - l.place
