use Rattle.room_snapshot.specs.Ids.{HaveIds}
use Rattle.room_snapshot.proofs.SeenLemmas.{Knows, seen_to}
use Rattle.room_snapshot.proofs.ids.first_fault.Given as goal

abbrev pub invariant-documents : goal.invariant-documents
invariant-documents l = record {
  fine : HaveIds (seen_to l.documents l.document-index);
  known : Knows l.before (seen_to l.documents l.document-index);
}
