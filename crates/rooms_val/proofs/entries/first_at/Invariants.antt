use Rattle.std.proofs.Common.{◌≡◌, drop}
use Rattle.rooms_val.specs.Maps.{value_at}
use Rattle.rooms_val.proofs.entries.first_at.Given as goal

-- the key doesn't stand among those looked at
abbrev pub invariant-entries : goal.invariant-entries
invariant-entries g l = value_at (drop l.text-index l.entries) l.key ≡ value_at l.entries l.key
