use Rattle.std.proofs.Common.{◌≡◌, drop}
use Rattle.field_ops.specs.ViewRecordOps.{changes_view}
use Rattle.schema_core.specs.SchemaOf.{schema_tree}
use Rattle.side_effects.specs.Completed.{refuses, first_refusal}
use Rattle.side_effects.proofs.rules.check_each.Given as goal

-- the operations that are left decide
abbrev pub invariant-loop-entry : goal.invariant-loop-entry
invariant-loop-entry g l =
    let rule = refuses l.rule (schema_tree l.schema) (g.D.DocStore.records l.store) l.diff in
    first_refusal rule (changes_view (drop l.entry-index l.entry-items)) ≡ first_refusal rule (changes_view l.entry-items)
