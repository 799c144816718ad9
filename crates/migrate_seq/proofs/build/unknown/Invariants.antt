use Rattle.std.proofs.Common.{◌≡◌, drop}
use Rattle.migrate_seq.specs.Order.{first_some}
use Rattle.migrate_seq.specs.Builds.{unknown, unknown_in}
use Rattle.migrate_seq.proofs.build.unknown.Given as goal

-- each dependency so far is known
abbrev pub invariant-loop-sequence : goal.invariant-loop-sequence
invariant-loop-sequence l = unknown l.list ≡ first_some (λ s. first_some (λ m. unknown_in l.list m.depends.items) s.migrations.items) (drop l.sequence-index l.list)
