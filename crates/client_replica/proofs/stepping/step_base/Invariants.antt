use Rattle.std.proofs.Common.{◌≡◌, ◌+◌, ◌≤◌, drop}
use Rattle.field_ops.specs.ViewRecordOps.{changes_view}
use Rattle.schema_core.specs.Admits.{is_admitted, is_document}
use Rattle.schema_core.specs.SchemaOf.{schema_tree}
use Rattle.doc_model.specs.Documents.{step}
use Rattle.client_replica.specs.Parts.{ops_with}
use Rattle.room_schemas.specs.Decided.{is_presence}
use Rattle.client_replica.proofs.stepping.step_base.Given as goal

-- with the operations that are left both parts become what they become with all
abbrev pub invariant-ids : goal.invariant-ids
invariant-ids g l =
    let s = schema_tree l.fn.schema in
    let records = g.D.DocStore.records in
    let left = changes_view (drop l.id-index l.id-items) in
    let all = changes_view l.id-items in
    record {
      document : step (is_admitted s) (records l.store) (ops_with (is_document s) left) ≡ step (is_admitted s) (records l.initial.store) (ops_with (is_document s) all);
      presence : step (is_admitted s) l.others (ops_with (is_presence s) left) ≡ step (is_admitted s) l.initial.others (ops_with (is_presence s) all);
      begun : g.D.DocStore.begun l.store ≡ g.D.DocStore.begun l.initial.store;
      rest : g.D.DocStore.rest l.store ≡ g.D.DocStore.rest l.initial.store;
      ticks : l.steps ≤ l.initial.steps + l.id-index;
    }
