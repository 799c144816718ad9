use Rattle.std.proofs.Common.{◌≡◌, ℕ, pos, true, ◌&&◌, [], drop, fold}
use Rattle.std.specs.List.{list_all}
use Rattle.std.specs.Prelude.{int_le, int_lt}
use Rattle.room_model.specs.Saves.{diff_at, with_record, with_tomb}
use Rattle.room_history.specs.Begins.{diff_in, AreWithin}
use Rattle.room_history.proofs.begin.diffs_of.Given as goal

abbrev pub invariant-records : goal.invariant-records
invariant-records l = record {
  diffs : (n : ℕ) → fold (with_record n) (diff_in l.diffs (pos n)) (drop l.saved-index l.saved-items) ≡ fold (with_record n) [] l.saved-items;
  within : AreWithin (pos 0) l.saved.clock l.diffs;
  clocked : list_all (λ r. int_le (pos 1) r.clock && int_le r.clock l.saved.clock) (drop l.saved-index l.saved-items) ≡ true;
}

abbrev pub invariant-tombs : goal.invariant-tombs
invariant-tombs l = record {
  diffs : (n : ℕ) → fold (with_tomb n) (diff_in l.diffs (pos n)) (drop l.tomb-index l.tomb-items) ≡ diff_at l.saved n;
  within : AreWithin (pos 0) l.saved.clock l.diffs;
  clocked : list_all (λ t. int_lt l.saved.start t.clock && int_le t.clock l.saved.clock) (drop l.tomb-index l.tomb-items) ≡ true;
}
