use Rattle.std.proofs.Common.{◌≡◌, ◌+◌, ◌≤◌, drop}
use Rattle.rooms_val.specs.Maps.{seen}
use Rattle.field_ops.specs.View.{maybe_data}
use Rattle.room_history.specs.Marks.{set_all}
use Rattle.room_history.proofs.records.write_each.Given as goal

abbrev pub invariant-ids : goal.invariant-ids
invariant-ids g l = record {
  done : set_all l.records.0 (seen maybe_data (drop l.id-index l.left)) ≡ set_all l.initial.records.0 (seen maybe_data l.left);
  begun : l.records.1 ≡ l.initial.records.1;
  ticks : l.steps ≤ l.initial.steps + l.id-index;
}
