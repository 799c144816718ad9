use Rattle.std.proofs.Common.{◌≡◌, take}
use Rattle.room_snapshot.specs.Ids.{by_id}
use Rattle.room_snapshot.specs.Saved.{documents_view, records_of}
use Rattle.room_snapshot.specs.Sorted.{sorted_view}
use Rattle.room_snapshot.proofs.raising.sort.Given as goal

abbrev pub invariant-documents : goal.invariant-documents
invariant-documents l = sorted_view l.sorted.entries ≡ by_id (records_of (documents_view (take l.document-index l.documents)))
