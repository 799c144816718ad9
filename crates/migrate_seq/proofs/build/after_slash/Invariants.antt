use Rattle.std.proofs.Common.{◌≡◌, ◌≤◌, length, drop}
use Rattle.migrate_seq.specs.Builds.{after_slash}
use Rattle.migrate_seq.proofs.build.after_slash.Given as goal

-- the bytes so far are the same
abbrev pub invariant-loop-place : goal.invariant-loop-place
invariant-loop-place l = (l.place ≤ length l.id) × (after_slash l.sequence l.id ≡ after_slash (drop l.place l.sequence) (drop l.place l.id))
