use Rattle.std.proofs.Common.{◌≡◌, suc, drop}
use Rattle.migrate_seq.specs.Builds.{gap_from}
use Rattle.migrate_seq.proofs.build.gap_in.Given as goal

-- no migration so far leaves a gap
abbrev pub invariant-loop-place : goal.invariant-loop-place
invariant-loop-place l = gap_from l.sequence 1 l.migrations ≡ gap_from l.sequence (suc l.place) (drop l.place l.migrations)
