-- What a room keeps of its last entries.
use Rattle.std.specs.Prelude.{ℕ, suc, ℤ, pos, List, [], ◌∷◌, ◌++◌, length, map, Option}
use Rattle.rooms_val.specs.Data.{Data}
use Rattle.rooms_val.specs.Maps.{value_at, seen}
use Rattle.field_ops.specs.View.{maybe_data}
use Rattle.room_model.specs.Histories.{History, records_of}
use Rattle.room_model.specs.declared.history.Entry.{Entry}
use Rattle.room_history.specs.declared.recent_entry.RecentEntry.{RecentEntry}

-- an entry at its clock, with what stood after it under each id that it names
pub record RecentTree : Type 0 where
  pub clock : ℤ
  pub entry : Entry
  pub after : List (List ℕ × Option Data)

abbrev pub recent_tree : RecentEntry → RecentTree
recent_tree r = record { clock = r.clock; entry = r.entry; after = seen maybe_data r.after.items }

-- the newest entry of a history so
abbrev pub newest : Entry → History → RecentTree
newest entry history = record {
  clock = pos (suc (length history));
  entry = entry;
  after = map (λ c. (c.0, value_at (records_of (entry ∷ history)) c.0)) entry.diff;
}

-- the entries of a history so, the oldest first
abbrev pub trees_of : History → List RecentTree
trees_of [] = []
trees_of (entry ∷ history) = trees_of history ++ newest entry history ∷ []
