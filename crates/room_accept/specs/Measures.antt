-- What a record that may be there adds to a document.
use Rattle.std.specs.Prelude.{ℕ, Option, Some, None}
use Rattle.rooms_val.specs.Data.{Data}
use Rattle.rooms_val.specs.Weight.{weight}

-- to the number of records
abbrev pub count_of : Option Data → ℕ
count_of None = 0
count_of (Some d) = 1

-- to their weight
abbrev pub weight_of : Option Data → ℕ
weight_of None = 0
weight_of (Some d) = weight d
