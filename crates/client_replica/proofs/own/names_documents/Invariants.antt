use Rattle.std.proofs.Common.{◌≡◌, drop}
use Rattle.field_ops.specs.ViewRecordOps.{changes_view}
use Rattle.schema_core.specs.Admits.{is_document}
use Rattle.schema_core.specs.SchemaOf.{schema_tree}
use Rattle.client_replica.specs.Owns.{is_all_document}
use Rattle.client_replica.proofs.own.names_documents.Given as goal

abbrev pub invariant-ids : goal.invariant-ids
invariant-ids l =
    let is_doc = is_document (schema_tree l.fn.schema) in
    is_all_document is_doc (changes_view (drop l.id-index l.id-items)) ≡ is_all_document is_doc (changes_view l.id-items)
