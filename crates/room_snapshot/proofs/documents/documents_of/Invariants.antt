use Rattle.std.proofs.Common.{◌≡◌, take}
use Rattle.std.specs.Prelude as std
use Rattle.rooms_val.specs.View.{items_view}
use Rattle.room_snapshot.specs.Lines.{document_val}
use Rattle.room_snapshot.specs.Saved.{documents_view}
use Rattle.room_snapshot.proofs.documents.documents_of.Given as goal

abbrev pub invariant-vals : goal.invariant-vals
invariant-vals l = items_view (take l.val-index l.vals) ≡ std.map document_val (documents_view l.documents.items)
