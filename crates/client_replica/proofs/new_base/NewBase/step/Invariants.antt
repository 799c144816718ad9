use Rattle.std.proofs.Common.{◌≡◌, ◌+◌, ◌≤◌, length, take}
use Rattle.rooms_val.specs.Data.{Pairs}
use Rattle.field_ops.specs.ViewRecordOps.{changes_view}
use Rattle.schema_core.specs.Admits.{is_admitted, is_document}
use Rattle.schema_core.specs.SchemaOf.{schema_tree}
use Rattle.doc_model.specs.Documents.{step}
use Rattle.room_schemas.specs.Decided.{is_presence}
use Rattle.client_replica.specs.Parts.{ops_with}
use Rattle.client_replica.specs.NewBases.{IsLaid, HasIdsOf}
use Rattle.client_replica.proofs.new_base.NewBase.step.Given as goal

abbrev pub invariant-ids : goal.invariant-ids
invariant-ids g l =
    let s = schema_tree l.fn.schema in
    let m = g.D.DocStore.records l.fn.store in
    let front = changes_view (take l.id-index l.id-items) in
    record {
      document : (base : Pairs) → IsLaid base m l.fn.stash l.initial.self.changes → IsLaid (step (is_admitted s) base (ops_with (is_document s) front)) m l.fn.stash l.self.changes;
      presence : l.self.others ≡ step (is_admitted s) l.initial.self.others (ops_with (is_presence s) front);
      more : HasIdsOf l.initial.self.changes l.self.changes;
      few : length l.self.changes ≤ length l.initial.self.changes + l.id-index;
    }
