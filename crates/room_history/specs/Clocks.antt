-- What is saved of the records and the changes that a room keeps.
use Rattle.std.specs.Prelude.{ℕ, ℤ, pos, List, Bool, not, ◌&&◌, if◌then◌else◌, Option, None, option_map}
use Rattle.std.specs.Option.{option_map_or}
use Rattle.rooms_val.specs.Data.{Data, Pairs, whole}
use Rattle.rooms_val.specs.Kinds.{as_whole}
use Rattle.rooms_val.specs.Maps.{value_at, with_key}
use Rattle.rooms_val.specs.View.{data_of}
use Rattle.change_list.specs.declared.entries.Change.{Change}
use Rattle.room_model.specs.declared.saved.SavedRecord.{SavedRecord}

-- clocks by id, with that of a change
abbrev pub with_clock : Pairs → Change → Pairs
with_clock clocks change = with_key clocks change.id (whole change.clock)

-- the same, but only where the change is the removal of an id that passes a test
abbrev pub with_removal : (List ℕ → Bool) → Pairs → Change → Pairs
with_removal test clocks change = if not change.live && test change.id then with_clock clocks change else clocks

-- the whole number that a value is, and 0 where it is none
abbrev pub number_of : Data → ℤ
number_of d = option_map_or (λ number. number) (as_whole d) (pos 0)

-- the clock under an id, and 0 where there is none
abbrev pub clock_at : Pairs → List ℕ → ℤ
clock_at clocks id = option_map_or number_of (value_at clocks id) (pos 0)

-- what is saved of the record under an id, where there is one and the id passes a test
abbrev pub saved_under : (List ℕ → Bool) → Pairs → Pairs → List ℕ → Option (Data × ℤ)
saved_under test records clocks id = if test id then option_map (λ d. (d, clock_at clocks id)) (value_at records id) else None

-- a saved record, with its clock
abbrev pub with_own_clock : SavedRecord → Data × ℤ
with_own_clock saved = (data_of saved.record, saved.clock)
