use Rattle.std.proofs.Common.{reverse, vec_len}
use Rattle.undo_marks.proofs.KeptLemmas.{Rewinding}
use Rattle.undo_marks.proofs.marks.Marks.redone.Given as goal

abbrev pub invariant-marks : goal.invariant-marks
invariant-marks l = Rewinding l.initial.self l.self l.names (reverse l.initial.names.items)

abbrev pub decreases-marks : goal.decreases-marks
decreases-marks l = vec_len l.names
