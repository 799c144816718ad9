use Rattle.std.proofs.Common.{◌≡◌, ◌+◌, take, length}
use Rattle.tl_rules.specs.Ids.{flat}
use Rattle.tl_rules.proofs.edits.part_at.Given as goal

-- the ids of the parts before, and how far into the others
abbrev pub invariant-parts : goal.invariant-parts
invariant-parts l = length (flat (take l.at l.parts)) + l.offset ≡ l.fn.place
