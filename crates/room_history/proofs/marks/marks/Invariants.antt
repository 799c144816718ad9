use Rattle.std.proofs.Common.{◌≡◌, ◌++◌, drop}
use Rattle.rooms_val.specs.Maps.{seen}
use Rattle.field_ops.specs.View.{maybe_data}
use Rattle.room_history.specs.Marks.{marks_of}
use Rattle.room_history.proofs.marks.marks.Given as goal

abbrev pub invariant-ids : goal.invariant-ids
invariant-ids l = l.marks.items ++ marks_of (seen maybe_data (drop l.id-index l.left)) ≡ marks_of (seen maybe_data l.left)
