use Rattle.std.proofs.Common.{◌≡◌, map, take}
use Rattle.tl_tables.specs.Fields.{with_fields}
use Rattle.tl_tables.specs.View.{field_tree}
use Rattle.tl_tables.proofs.fields.Fields.with_each.Given as goal

-- those so far that the version has
abbrev pub invariant-rows : goal.invariant-rows
invariant-rows l = (l.fields.version ≡ l.fn.self.version) × (l.fields.table ≡ with_fields l.fn.self.version l.fn.self.table (map field_tree (take l.row-index l.rows)))
