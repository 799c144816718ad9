use Rattle.std.proofs.Common.{◌≡◌, drop}
use Rattle.migrate_seq.specs.Builds.{gap}
use Rattle.migrate_seq.proofs.build.gap.Given as goal

-- no sequence so far has a gap
abbrev pub invariant-loop-sequence : goal.invariant-loop-sequence
invariant-loop-sequence l = gap l.list ≡ gap (drop l.sequence-index l.list)
