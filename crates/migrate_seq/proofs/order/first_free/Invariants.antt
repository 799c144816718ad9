use Rattle.std.proofs.Common.{◌≡◌, ℕ, ◌<◌, get_or, false}
use Rattle.migrate_seq.specs.Order.{is_free}
use Rattle.migrate_seq.specs.Plans.{follows}
use Rattle.migrate_seq.specs.declared.place.Place.{Place}
use Rattle.migrate_seq.proofs.order.first_free.Given as goal

-- none so far is free
abbrev pub invariant-loop-index : goal.invariant-loop-index
invariant-loop-index l = (k : ℕ) (d : Place) → k < l.index → is_free (follows l.sequences) l.left (get_or l.left k d) ≡ false
