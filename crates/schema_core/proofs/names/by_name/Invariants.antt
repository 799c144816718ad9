use Rattle.std.proofs.Common.{◌≡◌, drop, length}
use Rattle.rooms_val.specs.Maps.{AreRising}
use Rattle.schema_core.specs.Builds.{by_name, doubled, doubled_after}
use Rattle.schema_core.specs.View.{types_view, rows_view}
use Rattle.schema_core.proofs.NamesLemmas.{names}
use Rattle.schema_core.proofs.names.by_name.Given as goal

-- the types so far, and no name so far stood before
abbrev pub invariant-rows : goal.invariant-rows
invariant-rows l = record {
  rising : AreRising l.types.items;
  so_far : types_view l.types.items ≡ by_name (rows_view l.yielded);
  none : doubled (rows_view l.fn.rows.items) ≡ doubled_after (names l.yielded) (names (drop (length l.yielded) l.fn.rows.items));
}
