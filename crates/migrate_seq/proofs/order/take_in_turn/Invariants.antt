use Rattle.std.proofs.Common.{◌≡◌, ◌++◌, length}
use Rattle.migrate_seq.specs.Order.{taken_and_left}
use Rattle.migrate_seq.specs.Plans.{follows}
use Rattle.migrate_seq.proofs.order.take_in_turn.Given as goal

-- what was taken, and then what is taken from here on
abbrev pub invariant-places : goal.invariant-places
invariant-places l =
    let all = l.fn.places.items in
    let rest = taken_and_left (follows l.sequences) (length l.left.items) l.left.items in
    taken_and_left (follows l.sequences) (length all) all ≡ (l.taken.items ++ rest.0, rest.1)

abbrev pub decreases-places : goal.decreases-places
decreases-places l = length l.left.items
