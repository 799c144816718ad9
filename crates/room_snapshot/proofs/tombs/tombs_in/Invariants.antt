use Rattle.std.proofs.Common.{◌≡◌, take}
use Rattle.rooms_val.specs.Data.{whole}
use Rattle.rooms_val.specs.Maps.{seen}
use Rattle.rooms_val.specs.View.{pairs_view}
use Rattle.room_snapshot.specs.Saved.{tombs_view}
use Rattle.room_snapshot.proofs.tombs.tombs_in.Given as goal

abbrev pub invariant-entries : goal.invariant-entries
invariant-entries l = pairs_view (take l.entry-index l.entries) ≡ seen whole (tombs_view l.tombs.items)
