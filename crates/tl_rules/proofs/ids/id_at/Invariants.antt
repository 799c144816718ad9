use Rattle.std.proofs.Common.{◌≡◌, drop}
use Rattle.std.specs.List.{slice_get}
use Rattle.tl_rules.specs.Ids.{flat}
use Rattle.tl_rules.proofs.ids.id_at.Given as goal

-- the place among the ids of the parts that are left
abbrev pub invariant-parts : goal.invariant-parts
invariant-parts l = slice_get (flat (drop l.part-index l.parts)) l.left ≡ slice_get (flat l.parts) l.fn.place
