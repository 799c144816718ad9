use Rattle.std.proofs.Common.{◌≡◌, ◌++◌, map}
use Rattle.live_views.specs.Telling.{by_number}
use Rattle.world_views.specs.Views.{told_line}
use Rattle.world_views.proofs.lines.add_told.Given as goal

-- the lines so far, and then those of what is left to tell, are all
abbrev pub invariant-told : goal.invariant-told
invariant-told l =
    l.lines.items ++ map (told_line l.client) (by_number l.one-iterator.rest.items)
    ≡ l.fn.lines.items ++ map (told_line l.client) (by_number l.fn.told.items)
