use Rattle.std.proofs.Common.{◌≡◌}
use Rattle.migrate_seq.specs.Builds.{by_id}
use Rattle.migrate_seq.proofs.build.by_id.Given as goal

-- those so far in the order of their ids
abbrev pub invariant-loop-sequence : goal.invariant-loop-sequence
invariant-loop-sequence l = l.sorted.items ≡ by_id l.yielded
