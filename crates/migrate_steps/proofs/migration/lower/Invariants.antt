use Rattle.std.proofs.Common.{◌≡◌, ◌≤◌, drop, length}
use Rattle.rooms_val.specs.View.{data_of}
use Rattle.migrate_steps.specs.Records.{lowered}
use Rattle.migrate_steps.proofs.migration.lower.Given as goal

-- the steps from here on were run
abbrev pub invariant-steps : goal.invariant-steps
invariant-steps l = (l.left ≤ length l.steps) × (data_of l.after ≡ lowered (drop l.left l.steps) (data_of l.fn.stored))

abbrev pub decreases-steps : goal.decreases-steps
decreases-steps l = l.left
