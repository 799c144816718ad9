-- What of a printed message is read again.
use Rattle.std.specs.Prelude.{ℕ, ◌≤◌, IsTrue}
use Rattle.rooms_val.specs.Data.{Data, depth}
use Rattle.rooms_val.specs.Json.{json_of, is_within}

-- each number of the value is in range, and it is at most so deep
abbrev pub IsReadable : ℕ → Data → Type 0
IsReadable levels d = IsTrue (is_within (json_of d)) × depth d ≤ levels
