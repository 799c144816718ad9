use Rattle.std.proofs.Common.{◌≡◌, [], fold, drop}
use Rattle.schema_core.specs.Admits.{is_document}
use Rattle.schema_core.specs.SchemaOf.{schema_tree}
use Rattle.room_history.specs.Clocks.{with_removal}
use Rattle.room_history.proofs.saving.removals.Given as goal

abbrev pub invariant-changes : goal.invariant-changes
invariant-changes l = fold (with_removal (is_document (schema_tree l.schema))) l.clocks (drop l.change-index l.changes) ≡ fold (with_removal (is_document (schema_tree l.schema))) [] l.changes
