use Rattle.std.proofs.Common.{◌≡◌, ◌++◌, true, drop}
use Rattle.rooms_val.specs.Maps.{AreRising}
use Rattle.field_ops.specs.ViewRecordOps.{changes_view}
use Rattle.doc_model.specs.Documents.{fold_raw}
use Rattle.schema_core.specs.SchemaOf.{schema_tree}
use Rattle.room_model.specs.Accepting.{accept_ops}
use Rattle.room_schemas.specs.Decided.{decided}
use Rattle.room_accept.specs.Parts.{IsPart, are_documents}
use Rattle.room_accept.specs.Plans.{plan_of}
use Rattle.room_accept.proofs.part.accept_each.Given as goal

-- what was accepted, and what is accepted of what is left in the records after that, are what is accepted
abbrev pub invariant-ids : goal.invariant-ids
invariant-ids l =
    let s = schema_tree l.schema in
    let plan = plan_of l.plan in
    let m = l.records.0 in
    let left = changes_view (drop l.id-index l.id-items) in
    record {
      goes_on : l.part.diff ++ accept_ops (decided s) plan (fold_raw m l.part.diff) left ≡ accept_ops (decided s) plan m (changes_view l.id-items);
      part : IsPart s m l.part;
      rising : AreRising (l.part.diff ++ left);
      documents : are_documents s left ≡ true;
    }
