use Rattle.std.proofs.Common.{◌≡◌, map}
use Rattle.tl_tables.specs.Trees.{migration_tree}
use Rattle.tl_tables.specs.Migrations.{present}
use Rattle.tl_tables.proofs.migrations.sequence_at.Given as goal

-- those so far that are there
abbrev pub invariant-rows : goal.invariant-rows
invariant-rows l = map migration_tree l.kept.items ≡ present l.version (map (λ m. (m.0, migration_tree m.1)) l.yielded)
