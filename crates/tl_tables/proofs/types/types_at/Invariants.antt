use Rattle.std.proofs.Common.{◌≡◌, map, take}
use Rattle.schema_core.specs.View.{rows_view}
use Rattle.tl_tables.specs.View.{type_at}
use Rattle.tl_tables.proofs.types.types_at.Given as goal

-- those so far
abbrev pub invariant-types : goal.invariant-types
invariant-types l = rows_view l.rows.items ≡ map (type_at l.version) (take l.kind-index l.all)
