use Rattle.std.proofs.Common.{◌≡◌, drop}
use Rattle.migrate_steps.specs.Steps.{replacement, toward}
use Rattle.migrate_steps.proofs.row.replacement.Given as goal

-- no pair so far has the text
abbrev pub invariant-loop-first : goal.invariant-loop-first
invariant-loop-first l = replacement (toward l.way l.pairs) l.text ≡ replacement (toward l.way (drop l.first-index l.pairs)) l.text
