use Rattle.std.proofs.Common.{◌≡◌, drop}
use Rattle.std.specs.List.{list_any}
use Rattle.migrate_seq.specs.Plans.{follows}
use Rattle.migrate_seq.proofs.order.is_free.Given as goal

-- it follows none so far
abbrev pub invariant-loop-earlier : goal.invariant-loop-earlier
invariant-loop-earlier l = list_any (follows l.sequences l.place) l.left ≡ list_any (follows l.sequences l.place) (drop l.earlier-index l.left)
