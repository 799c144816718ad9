use Rattle.std.proofs.Common.{◌≡◌, ◌&&◌, pos, int_le, drop}
use Rattle.std.specs.List.{list_all}
use Rattle.room_history.proofs.check.are_records_by.Given as goal

abbrev pub invariant-records : goal.invariant-records
invariant-records l = list_all (λ r. int_le (pos 1) r.clock && int_le r.clock l.clock) (drop l.saved-index l.documents) ≡ list_all (λ r. int_le (pos 1) r.clock && int_le r.clock l.clock) l.documents
