use Rattle.std.proofs.Common.{◌≡◌, drop}
use Rattle.migrate_seq.specs.Builds.{has_migration}
use Rattle.migrate_seq.proofs.build.has_migration.Given as goal

-- none so far has the id
abbrev pub invariant-loop-migration : goal.invariant-loop-migration
invariant-loop-migration l = has_migration l.id l.migrations ≡ has_migration l.id (drop l.migration-index l.migrations)
