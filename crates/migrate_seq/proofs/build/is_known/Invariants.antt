use Rattle.std.proofs.Common.{◌≡◌, drop}
use Rattle.migrate_seq.specs.Builds.{is_known}
use Rattle.migrate_seq.proofs.build.is_known.Given as goal

-- none so far has the id
abbrev pub invariant-loop-sequence : goal.invariant-loop-sequence
invariant-loop-sequence l = is_known l.list l.id ≡ is_known (drop l.sequence-index l.list) l.id
