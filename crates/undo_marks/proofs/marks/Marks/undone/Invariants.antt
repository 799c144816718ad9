use Rattle.std.proofs.Common.{length}
use Rattle.undo_marks.proofs.KeptLemmas.{Unwinding}
use Rattle.undo_marks.proofs.marks.Marks.undone.Given as goal

abbrev pub invariant-marks : goal.invariant-marks
invariant-marks l = Unwinding l.fn.self l.self l.names

abbrev pub decreases-marks : goal.decreases-marks
decreases-marks l = length l.self.marked.items
