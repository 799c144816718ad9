-- Slots under ids, which hold a record or, while a transaction is open, what is left of one that was taken away.
use Rattle.std.specs.Prelude.{◌≡◌, ℕ, List, [], ◌∷◌, Option, None, Some}
use Rattle.std.specs.Coded.{Coded, coded×, coded_list, coded_option, coded_ℕ}
use Rattle.rooms_val.specs.Data.{Data, Pairs, map, members_of, IsSound}
use Rattle.rooms_val.specs.Code.{coded_data}
use Rattle.rooms_val.specs.Maps.{AreRising, value_at, set_at}

abbrev pub Slots : Type 0
Slots = List (List ℕ × Option Data)

-- the record in a slot, where there is a slot and it holds one
abbrev pub slot_record : Option (Option Data) → Option Data
slot_record None = None
slot_record (Some r) = r

-- the records in slots
abbrev pub present : Slots → Pairs
present [] = []
present (s ∷ slots) = set_at (present slots) s.0 s.1

-- no slot is empty
abbrev pub AreFull : Slots → Type 0
AreFull slots = (id : List ℕ) → ¬ (value_at slots id ≡ Some None)

-- the ids rise, and so do the keys of every map in the records
pub record AreSound (slots : Slots) : Type 0 where
  pub rising : AreRising slots
  pub sound : IsSound (map (members_of (present slots)))

abbrev pub coded_slots : Coded Slots
coded_slots = coded_list (coded× (coded_list coded_ℕ) (coded_option coded_data))
