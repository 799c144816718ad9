use Rattle.std.proofs.Common.{◌≡◌, ◌<◌, ℕ}
use Rattle.std.specs.List.{slice_get}
use Rattle.tl_rules.specs.Ids.{flat}
use Rattle.tl_rules.proofs.ids.are_alike.Given as goal

-- the ids are the same so far
abbrev pub invariant-places : goal.invariant-places
invariant-places l = (k : ℕ) → k < l.place → slice_get (flat l.left) k ≡ slice_get (flat l.right) k
