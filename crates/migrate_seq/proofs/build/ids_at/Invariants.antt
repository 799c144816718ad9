use Rattle.std.proofs.Common.{◌≡◌, ◌++◌, drop}
use Rattle.migrate_seq.specs.Builds.{ids_at}
use Rattle.migrate_seq.proofs.build.ids_at.Given as goal

-- the ids so far, and then those from here on
abbrev pub invariant-loop-place : goal.invariant-loop-place
invariant-loop-place l = ids_at l.sequences l.places ≡ l.ids.items ++ ids_at l.sequences (drop l.place-index l.places)
