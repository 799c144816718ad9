use Rattle.std.proofs.Common.{◌≡◌, ◌++◌, take}
use Rattle.tl_rules.proofs.edits.add_parts.Given as goal

-- the parts so far
abbrev pub invariant-parts : goal.invariant-parts
invariant-parts l = l.all.items ≡ l.initial.all.items ++ take l.part-index l.parts
