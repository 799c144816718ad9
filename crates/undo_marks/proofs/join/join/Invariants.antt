use Rattle.std.proofs.Common.{drop}
use Rattle.field_ops.specs.ViewRecordOps.{changes_view}
use Rattle.undo_marks.proofs.JoinLemmas.{Joining}
use Rattle.undo_marks.proofs.join.join.Given as goal

abbrev pub invariant-ids : goal.invariant-ids
invariant-ids l = Joining (changes_view (drop l.id-index l.id-items)) l.fn.newer l.initial.older l.older
