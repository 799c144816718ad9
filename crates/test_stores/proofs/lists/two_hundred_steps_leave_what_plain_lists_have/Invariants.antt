use Rattle.std.proofs.Common.{◌≡◌, length}
use Rattle.test_stores.proofs.lists.two_hundred_steps_leave_what_plain_lists_have.Given as goal

abbrev pub invariant-steps : goal.invariant-steps
invariant-steps g l = length l.links.lists ≡ 2
