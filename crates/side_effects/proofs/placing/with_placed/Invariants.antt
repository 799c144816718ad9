use Rattle.std.proofs.Common.{◌≡◌, drop}
use Rattle.field_ops.specs.ViewRecordOps.{changes_view}
use Rattle.schema_core.specs.SchemaOf.{schema_tree}
use Rattle.side_effects.specs.Placed.{unplaced, all_placed}
use Rattle.side_effects.specs.Tops.{IsPlacing}
use Rattle.side_effects.proofs.placing.with_placed.Given as goal

-- the operations that are left do the rest
abbrev pub invariant-ids : goal.invariant-ids
invariant-ids g l =
    let m = g.D.DocStore.records l.store in
    let s = schema_tree l.schema in
    let left = changes_view (drop l.id-index l.id-items) in
    record {
      stands : IsPlacing m l.tops l.diff left;
      same : all_placed s m l.diff (unplaced m left) ≡ all_placed s m l.fn.diff (unplaced m l.wanted);
    }
