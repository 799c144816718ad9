use Rattle.std.proofs.Common.{◌≡◌, drop}
use Rattle.migrate_seq.specs.Builds.{bad_id_among}
use Rattle.migrate_seq.proofs.build.bad_id_in.Given as goal

-- no id so far is bad
abbrev pub invariant-loop-migration : goal.invariant-loop-migration
invariant-loop-migration l = bad_id_among l.sequence l.migrations ≡ bad_id_among l.sequence (drop l.migration-index l.migrations)
