use Rattle.std.proofs.Common.{◌≡◌, ◌++◌, drop}
use Rattle.field_ops.specs.ViewRecordOps.{changes_view}
use Rattle.side_effects.specs.Placed.{placed}
use Rattle.side_effects.proofs.placing.placed_part.Given as goal

abbrev pub invariant-ids : goal.invariant-ids
invariant-ids g l =
    let m = g.D.DocStore.records l.store in
    l.diff ++ placed m (changes_view (drop l.id-index l.id-items)) ≡ placed m (changes_view l.id-items)
