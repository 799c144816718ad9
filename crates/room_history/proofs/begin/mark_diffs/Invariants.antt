use Rattle.std.proofs.Common.{◌≡◌, All}
use Rattle.std.specs.List.Sorted.{IsStrictlySortedBy}
use Rattle.std.specs.Map.{keys_of}
use Rattle.std.specs.Ordering.{int_cmp}
use Rattle.change_list.specs.Changes.{listed, AreUpTo}
use Rattle.room_history.specs.Begins.{mark_diffs}
use Rattle.room_history.proofs.begin.mark_diffs.Given as goal

-- what is still to be marked makes of the lists what all makes of those at the start
abbrev pub invariant-diffs : goal.invariant-diffs
invariant-diffs l = record {
  lists : mark_diffs l.clock-iterator (l.changes.live, l.changes.dead) ≡ mark_diffs l.diffs.entries (l.initial.changes.live, l.initial.changes.dead);
  sorted : IsStrictlySortedBy int_cmp (keys_of l.clock-iterator);
  latest : All (λ z. AreUpTo z (listed l.changes)) (keys_of l.clock-iterator);
  start : l.changes.start ≡ l.initial.changes.start;
}
