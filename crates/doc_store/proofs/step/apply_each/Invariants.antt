use Rattle.std.proofs.Common.{◌≡◌, ◌+◌, ◌≤◌, [], drop}
use Rattle.field_ops.specs.ViewRecordOps.{changes_view}
use Rattle.field_ops.proofs.WalkLemmas.{Going}
use Rattle.schema_core.specs.SchemaOf.{schema_tree}
use Rattle.doc_model.specs.Documents.{step}
use Rattle.doc_model.specs.Inverses.{inverse_diff}
use Rattle.doc_store.specs.Checking.{admits_by}
use Rattle.doc_store.proofs.Applied.{Untouched, gives}
use Rattle.doc_store.proofs.step.apply_each.Given as goal

abbrev pub invariant-ids : goal.invariant-ids
invariant-ids g l =
    let admits = admits_by l.fn.checked (schema_tree l.fn.schema) in
    let records = g.D.DocStore.records in
    record {
      done : step admits (records l.store) (changes_view (drop l.id-index l.id-items)) ≡ step admits (records l.initial.store) (changes_view l.id-items);
      back : Going (gives admits (records l.initial.store)) (inverse_diff admits (records l.initial.store) l.fn.diff) [] (drop l.id-index l.id-items) l.back;
      untouched : Untouched (drop l.id-index l.id-items) (records l.store) (records l.initial.store);
      begun : g.D.DocStore.begun l.store ≡ g.D.DocStore.begun l.initial.store;
      rest : g.D.DocStore.rest l.store ≡ g.D.DocStore.rest l.initial.store;
      ticks : l.steps ≤ l.initial.steps + l.id-index;
    }
