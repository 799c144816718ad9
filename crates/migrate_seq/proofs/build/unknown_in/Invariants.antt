use Rattle.std.proofs.Common.{◌≡◌, drop}
use Rattle.migrate_seq.specs.Builds.{unknown_in}
use Rattle.migrate_seq.proofs.build.unknown_in.Given as goal

-- each dependency so far is known
abbrev pub invariant-loop-id : goal.invariant-loop-id
invariant-loop-id l = unknown_in l.list l.depends ≡ unknown_in l.list (drop l.id-index l.depends)
