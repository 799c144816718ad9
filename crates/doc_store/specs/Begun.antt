-- The maps of records at which open transactions began, the newest first.
use Rattle.std.specs.Prelude.{List, [], ◌∷◌}
use Rattle.rooms_val.specs.Data.{Pairs}

-- those of the transactions around the newest
abbrev pub outer : List Pairs → List Pairs
outer [] = []
outer (m ∷ ms) = ms
