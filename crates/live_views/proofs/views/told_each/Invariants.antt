use Rattle.std.proofs.Common.{◌≡◌, take}
use Rattle.live_views.specs.Telling.{as_told, by_number}
use Rattle.live_views.proofs.views.told_each.Given as goal

-- the answers so far are told
abbrev pub invariant-due : goal.invariant-due
invariant-due l = by_number l.told.items ≡ as_told (take l.id-index l.due)
