use Rattle.std.proofs.Common.{◌≡◌, take}
use Rattle.std.specs.Prelude as std
use Rattle.room_snapshot.specs.Lines.{document_val}
use Rattle.room_snapshot.specs.Saved.{documents_view}
use Rattle.room_snapshot.proofs.documents.documents_val.Given as goal

abbrev pub invariant-documents : goal.invariant-documents
invariant-documents l = l.vals ≡ std.map document_val (documents_view (take l.document-index l.documents))
