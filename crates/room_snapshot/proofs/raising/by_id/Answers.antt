use Rattle.std.proofs.Common.{sym, subst}
use Rattle.rooms_val.specs.Maps.{AreRising}
use Rattle.room_snapshot.specs.Saved.{documents_view, records_of}
use Rattle.room_snapshot.proofs.RaiseLemmas.{rising-by_id}
use Rattle.room_snapshot.proofs.raising.by_id.Goals as goal

pub fields_of-requires : goal.fields_of-requires
fields_of-requires c = subst AreRising (sym c.in_ok-sorted.ensures) (rising-by_id (records_of (documents_view c.args.documents.now)))
