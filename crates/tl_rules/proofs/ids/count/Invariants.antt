use Rattle.std.proofs.Common.{◌≡◌, ◌+◌, drop, length}
use Rattle.tl_rules.specs.Ids.{flat}
use Rattle.tl_rules.proofs.ids.count.Given as goal

-- what was counted, and what is left
abbrev pub invariant-parts : goal.invariant-parts
invariant-parts l = l.found + length (flat (drop l.part-index l.parts)) ≡ length (flat l.parts)
