use Rattle.std.proofs.Common.{◌≡◌, take}
use Rattle.rooms_val.specs.Data.{whole}
use Rattle.rooms_val.specs.Maps.{seen}
use Rattle.room_snapshot.specs.Lines.{tombs_by_id}
use Rattle.room_snapshot.specs.Saved.{tombs_view}
use Rattle.room_snapshot.proofs.tombs.tombs_val.Given as goal

abbrev pub invariant-tombs : goal.invariant-tombs
invariant-tombs l = l.fields ≡ seen whole (tombs_by_id (tombs_view (take l.tomb-index l.tombs)))
