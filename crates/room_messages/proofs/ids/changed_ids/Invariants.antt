use Rattle.std.proofs.Common.{◌≡◌, map}
use Rattle.room_messages.proofs.ids.changed_ids.Given as goal

-- the ids of the changes so far
abbrev pub invariant-changes : goal.invariant-changes
invariant-changes g l = l.ids.items ≡ map (λ c. c.id) l.yielded
