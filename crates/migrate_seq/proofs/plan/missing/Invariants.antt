use Rattle.std.proofs.Common.{◌≡◌, ◌++◌, drop}
use Rattle.migrate_seq.specs.Plans.{missing, missing_from}
use Rattle.migrate_seq.proofs.plan.missing.Given as goal

-- what is missed so far, and then what is missed from here on
abbrev pub invariant-loop-index : goal.invariant-loop-index
invariant-loop-index l = missing l.sequences l.held ≡ l.places.items ++ missing_from l.held l.index (drop l.index l.sequences)
