use Rattle.std.proofs.Common.{◌≡◌, drop}
use Rattle.migrate_seq.specs.Order.{first_some}
use Rattle.migrate_seq.specs.Builds.{unknown_in}
use Rattle.migrate_seq.proofs.build.unknown_of.Given as goal

-- each dependency so far is known
abbrev pub invariant-loop-migration : goal.invariant-loop-migration
invariant-loop-migration l = first_some (λ m. unknown_in l.list m.depends.items) l.migrations ≡ first_some (λ m. unknown_in l.list m.depends.items) (drop l.migration-index l.migrations)
