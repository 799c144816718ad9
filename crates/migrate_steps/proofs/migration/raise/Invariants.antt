use Rattle.std.proofs.Common.{◌≡◌, drop}
use Rattle.rooms_val.specs.View.{data_of}
use Rattle.migrate_steps.specs.Records.{raised}
use Rattle.migrate_steps.proofs.migration.raise.Given as goal

-- what the steps from here on make of it is what all make of the record
abbrev pub invariant-loop-step : goal.invariant-loop-step
invariant-loop-step l = raised l.steps (data_of l.fn.stored) ≡ raised (drop l.step-index l.steps) (data_of l.after)
