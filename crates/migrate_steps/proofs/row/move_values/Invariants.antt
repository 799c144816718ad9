use Rattle.std.proofs.Common.{◌≡◌, drop}
use Rattle.migrate_steps.specs.Steps.{moved}
use Rattle.migrate_steps.proofs.row.move_values.Given as goal

-- the keys so far have moved
abbrev pub invariant-loop-key : goal.invariant-loop-key
invariant-loop-key l = moved l.keys (l.initial.from, l.initial.to) ≡ moved (drop l.key-index l.keys) (l.from, l.to)
