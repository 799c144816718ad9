use Rattle.std.proofs.Common.{◌≡◌, ◌++◌, map}
use Rattle.live_views.specs.Telling.{by_number}
use Rattle.room_join.specs.Joiners.{told_line}
use Rattle.room_join.proofs.joiner.add_told.Given as goal

-- the lines so far, and then those of what is left to tell, are all
abbrev pub invariant-told : goal.invariant-told
invariant-told l =
    l.lines.items ++ map told_line (by_number l.one-iterator.rest.items)
    ≡ l.fn.lines.items ++ map told_line (by_number l.fn.told.items)
