-- Which bytes are the line of a saved room, and why bytes are none.
use Rattle.std.specs.Prelude.{◌≡◌, ℕ, ◌<◌, ◌≤◌, List, length, IsTrue, Ok, Err}
use Rattle.rooms_val.specs.Data.{Data, depth}
use Rattle.rooms_val.specs.Json.{json_of, is_within, deepest, value_of}
use Rattle.rooms_val.specs.Maps.{AreRising}
use Rattle.migrate_seq.specs.Versions.{Versions}
use Rattle.room_snapshot.specs.Saved.{SavedTree}
use Rattle.room_snapshot.specs.Lines.{line_val}
use Rattle.room_snapshot.specs.declared.fault.SnapFault.{SnapFault}
use Rattle.room_snapshot.specs.declared.fault.SnapFault.TheVariants as fault
use Rattle.room_snapshot.specs.declared.snapshot.TheConstants.{LONGEST_LINE}

-- each number of a value is in range, and it isn't too deep
abbrev pub IsReadable : Data → Type 0
IsReadable d = IsTrue (is_within (json_of d)) × (depth d ≤ deepest)

-- the bytes are a line of the saved room with the versions of its schema: they are few enough, they are read as its
-- value, and its tombstones rise by id
pub record IsLine (bytes : List ℕ) (s : SavedTree) (held : Versions) : Type 0 where
  pub short : length bytes ≤ LONGEST_LINE
  pub value : value_of bytes ≡ Ok (line_val s held)
  pub rising : AreRising s.tombstones

-- the value is that of no saved room
abbrev pub IsNoRoom : Data → Type 0
IsNoRoom d = (s : SavedTree) (held : Versions) → ¬ (d ≡ line_val s held)

-- the cause of each fault of bytes; out of memory has none
abbrev pub RefusesLine : List ℕ → SnapFault → Type 0
RefusesLine bytes fault.LineTooLong = LONGEST_LINE < length bytes
RefusesLine bytes (fault.Val f) = (length bytes ≤ LONGEST_LINE) × (value_of bytes ≡ Err f)
RefusesLine bytes fault.Shape = (length bytes ≤ LONGEST_LINE) × (d : Data) × (value_of bytes ≡ Ok d) × IsNoRoom d
RefusesLine bytes fault.OutOfMemory = Unit {0}
