use Rattle.std.proofs.Common.{◌≡◌, drop}
use Rattle.migrate_seq.specs.Builds.{bad_id}
use Rattle.migrate_seq.proofs.build.bad_id.Given as goal

-- no id so far is bad
abbrev pub invariant-loop-sequence : goal.invariant-loop-sequence
invariant-loop-sequence l = bad_id l.list ≡ bad_id (drop l.sequence-index l.list)
