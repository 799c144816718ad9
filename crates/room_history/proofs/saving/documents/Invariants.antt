use Rattle.std.proofs.Common.{◌≡◌, ◌++◌, map, filter_map, drop}
use Rattle.schema_core.specs.Admits.{is_document}
use Rattle.schema_core.specs.SchemaOf.{schema_tree}
use Rattle.room_history.specs.Clocks.{saved_under, with_own_clock}
use Rattle.room_history.proofs.saving.documents.Given as goal

-- what was saved, and what there is to save under the ids that are left, is what there is to save
abbrev pub invariant-ids : goal.invariant-ids
invariant-ids l =
    let under = saved_under (is_document (schema_tree l.schema)) l.records.0 l.clocks in
    map with_own_clock l.documents.items ++ filter_map under (drop l.id-index l.id-items) ≡ filter_map under l.id-items
