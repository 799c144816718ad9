use Rattle.std.proofs.Common.{◌≡◌, ◌&&◌, int_lt, int_le, drop}
use Rattle.std.specs.List.{list_all}
use Rattle.room_history.proofs.check.are_tombs_by.Given as goal

abbrev pub invariant-tombs : goal.invariant-tombs
invariant-tombs l = list_all (λ t. int_lt l.start t.clock && int_le t.clock l.clock) (drop l.tomb-index l.tombstones) ≡ list_all (λ t. int_lt l.start t.clock && int_le t.clock l.clock) l.tombstones
