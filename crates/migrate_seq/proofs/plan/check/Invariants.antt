use Rattle.std.proofs.Common.{◌≡◌, drop}
use Rattle.migrate_seq.specs.Plans.{first_fault}
use Rattle.migrate_seq.proofs.plan.check.Given as goal

-- no version so far is at fault
abbrev pub invariant-loop-place : goal.invariant-loop-place
invariant-loop-place l = first_fault l.sequences l.held ≡ first_fault l.sequences (drop l.place l.held)
