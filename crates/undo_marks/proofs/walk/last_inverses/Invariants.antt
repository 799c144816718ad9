use Rattle.std.proofs.Common.{◌+◌, ◌≤◌, length, map, reverse}
use Rattle.undo_marks.specs.Kept.{diffs_of, section_of}
use Rattle.undo_marks.proofs.WalkLemmas.{Passing}
use Rattle.undo_marks.proofs.walk.last_inverses.Given as goal

abbrev pub invariant-marks : goal.invariant-marks
invariant-marks l = Passing (reverse (map section_of l.initial.marked)) (diffs_of l.initial.last) (reverse (map section_of l.marked)) (diffs_of l.last) l.dropped
    × (l.dropped + length l.marked ≤ length l.initial.marked)

abbrev pub decreases-marks : goal.decreases-marks
decreases-marks l = length l.marked
