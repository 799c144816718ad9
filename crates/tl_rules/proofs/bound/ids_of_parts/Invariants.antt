use Rattle.std.proofs.Common.{◌≡◌, ◌++◌, drop}
use Rattle.tl_rules.specs.Ids.{flat}
use Rattle.tl_rules.proofs.bound.ids_of_parts.Given as goal

-- what was copied, and what is left
abbrev pub invariant-parts : goal.invariant-parts
invariant-parts l = l.ids.items ++ flat (drop l.part-index l.parts) ≡ flat l.parts
