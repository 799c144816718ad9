use Rattle.std.proofs.Common.{◌≡◌, ◌++◌, drop}
use Rattle.rooms_val.specs.Maps.{seen}
use Rattle.field_ops.specs.View.{maybe_data}
use Rattle.field_ops.specs.ViewRecordOps.{changes_view}
use Rattle.room_history.specs.Begins.{left_of}
use Rattle.room_history.proofs.begin.left_of.Given as goal

abbrev pub invariant-ids : goal.invariant-ids
invariant-ids l = seen maybe_data l.left.items ++ left_of (changes_view (drop l.id-index l.id-items)) ≡ left_of (changes_view l.id-items)
