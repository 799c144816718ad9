use Rattle.std.proofs.Common.{◌≡◌, take, drop}
use Rattle.migrate_seq.specs.Builds.{doubled, doubled_after}
use Rattle.migrate_seq.proofs.build.doubled_id.Given as goal

-- no id so far stood before
abbrev pub invariant-loop-place : goal.invariant-loop-place
invariant-loop-place l = doubled l.list ≡ doubled_after (take l.place l.list) (drop l.place l.list)
