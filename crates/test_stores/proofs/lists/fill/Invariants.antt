use Rattle.std.proofs.Common.{◌≡◌, length}
use Rattle.test_stores.proofs.lists.fill.Given as goal

abbrev pub invariant-made : goal.invariant-made
invariant-made l = length l.links.lists ≡ length l.initial.links.lists
