use Rattle.std.proofs.Common.{◌≡◌, ◌≤◌, ◌||◌, true, length}
use Rattle.std.specs.List.{list_all}
use Rattle.rooms_val.specs.Maps.{AreRising}
use Rattle.change_list.specs.Changes.{listed, AreUpTo}
use Rattle.room_history.specs.Marks.{is_listed, mark_all}
use Rattle.room_history.proofs.marks.mark_all.Given as goal

-- what is still to be marked makes of the lists what all made of those at the start
abbrev pub invariant-marks : goal.invariant-marks
invariant-marks l =
    let rest = l.id-iterator.rest.items in
    record {
      lists : mark_all l.clock rest (l.changes.live, l.changes.dead) ≡ mark_all l.clock l.fn.marks.items (l.initial.changes.live, l.initial.changes.dead);
      start : l.changes.start ≡ l.initial.changes.start;
      rising : AreRising rest;
      latest : AreUpTo l.clock (listed l.changes);
      live : list_all (λ mark. mark.1 || is_listed l.changes.live mark.0) rest ≡ true;
      spare : length rest ≤ l.changes.spare;
    }
