use Rattle.std.proofs.Common.{◌≡◌, ◌+◌, ◌≤◌, ◌||◌, ℕ, List, length, drop}
use Rattle.std.specs.Prelude.{is_some}
use Rattle.rooms_val.specs.Maps.{value_at, AreRising}
use Rattle.field_ops.specs.ViewRecordOps.{changes_view}
use Rattle.schema_core.specs.Admits.{is_admitted}
use Rattle.schema_core.specs.SchemaOf.{schema_tree}
use Rattle.doc_model.specs.Documents.{step}
use Rattle.client_replica.specs.Stashes.{under}
use Rattle.client_replica.proofs.replay.replay_diff.Given as goal

abbrev pub invariant-ids : goal.invariant-ids
invariant-ids g l =
    let admits = is_admitted (schema_tree l.fn.schema) in
    let records = g.D.DocStore.records in
    record {
      done : step admits (records l.store) (changes_view (drop l.id-index l.id-items)) ≡ step admits (records l.initial.store) (changes_view l.id-items);
      base : (q : List ℕ) → under l.stash (records l.store) q ≡ under l.initial.stash (records l.initial.store) q;
      exact : (q : List ℕ) → is_some (value_at l.stash q) || is_some (value_at (drop l.id-index l.id-items) q) ≡ is_some (value_at l.initial.stash q) || is_some (value_at l.id-items q);
      few : length l.stash ≤ length l.initial.stash + l.id-index;
      rising : AreRising l.stash;
      begun : g.D.DocStore.begun l.store ≡ g.D.DocStore.begun l.initial.store;
      rest : g.D.DocStore.rest l.store ≡ g.D.DocStore.rest l.initial.store;
      ticks : l.steps ≤ l.initial.steps + l.id-index;
    }
