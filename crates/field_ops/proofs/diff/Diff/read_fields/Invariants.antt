use Rattle.std.proofs.Common.{[], drop}
use Rattle.rooms_val.specs.View.{pairs_view}
use Rattle.field_ops.specs.WireRecordOps.{diff_pairs}
use Rattle.field_ops.proofs.WalkLemmas.{Going}
use Rattle.field_ops.proofs.WireLemmas.{read_at}
use Rattle.field_ops.proofs.diff.Diff.read_fields.Given as goal

abbrev pub invariant-loop-id : goal.invariant-loop-id
invariant-loop-id l = Going read_at (pairs_view l.id-items) [] (drop l.id-index l.id-items) (diff_pairs l.diff)
