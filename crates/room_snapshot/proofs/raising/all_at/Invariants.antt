use Rattle.std.proofs.Common.{◌≡◌, take}
use Rattle.rooms_val.specs.View.{pairs_view}
use Rattle.room_snapshot.specs.Raised.{all_at}
use Rattle.room_snapshot.specs.Saved.{documents_view}
use Rattle.room_snapshot.proofs.raising.all_at.Given as goal

abbrev pub invariant-entries : goal.invariant-entries
invariant-entries l = documents_view l.made.items ≡ all_at l.clock (pairs_view (take l.entry-index l.entries))
