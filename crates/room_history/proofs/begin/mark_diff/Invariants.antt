use Rattle.std.proofs.Common.{◌≡◌, drop}
use Rattle.field_ops.specs.ViewRecordOps.{changes_view}
use Rattle.change_list.specs.Changes.{listed, AreUpTo}
use Rattle.room_history.specs.Begins.{mark_diff}
use Rattle.room_history.proofs.begin.mark_diff.Given as goal

-- what is still to be marked makes of the lists what all makes of those at the start
abbrev pub invariant-ids : goal.invariant-ids
invariant-ids l = record {
  lists : mark_diff l.clock (changes_view (drop l.id-index l.id-items)) (l.changes.live, l.changes.dead) ≡ mark_diff l.clock (changes_view l.id-items) (l.initial.changes.live, l.initial.changes.dead);
  latest : AreUpTo l.clock (listed l.changes);
  start : l.changes.start ≡ l.initial.changes.start;
}
