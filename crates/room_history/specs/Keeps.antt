-- What a room keeps of a history.
use Rattle.std.specs.Prelude.{◌≡◌, ℕ, ◌+◌, ◌≤◌, ◌^◌, pos, List, [], map, filter, length, Bool, true, false, is_some}
use Rattle.rooms_val.specs.Maps.{value_at}
use Rattle.schema_core.specs.Admits.{is_document}
use Rattle.schema_core.specs.SchemaOf.{schema_tree}
use Rattle.circular_buffer.specs.Buffer.{keep_last}
use Rattle.change_list.specs.declared.entries.Change.{Change}
use Rattle.room_model.specs.Histories.{History, records_of, last_clocks, start_of, dead}
use Rattle.room_model.specs.Schemas.{records_with}
use Rattle.room_model.specs.declared.limits.TheConstants.{MOST_TOLD}
use Rattle.room_schemas.specs.Decided.{is_presence}
use Rattle.room_accept.specs.Sizes.{size_of}
use Rattle.room_accept.specs.Suiting.{AreAdmitted}
use Rattle.room_history.specs.Entries.{recent_tree, trees_of}
use Rattle.room_history.specs.declared.kept.Kept.{Kept}

-- an id with the clock of its last entry, as a list of changes has it that is live or not
abbrev pub change_at : Bool → List ℕ × ℕ → Change
change_at live p = record { id = p.0; clock = pos p.1; live = live }

-- the ids that are there, each with the clock of the last entry that names it, by rising clock
abbrev pub present_ids : History → List (List ℕ × ℕ)
present_ids history = filter (λ p. is_some (value_at (records_of history) p.0)) (last_clocks history)

-- a room keeps this of a history, in a room that began with a first start
pub record Keeps (first : ℕ) (history : History) (kept : Kept) : Type 0 where
  -- the room's first start isn't above its clock
  pub began : first ≤ length history
  -- the records, and no transaction is open on them
  pub records : kept.records ≡ (records_of history, [])
  -- each record is one that the schema admits
  pub admitted : AreAdmitted (schema_tree kept.schema) (records_of history)
  -- how large the document is
  pub size : kept.size ≡ size_of (is_document (schema_tree kept.schema)) (records_of history)
  pub clock : kept.clock ≡ pos (length history)
  -- the ids that are there, those that are remembered as removed, and where those begin
  pub live : kept.changes.live ≡ map (change_at true) (present_ids history)
  pub dead : kept.changes.dead ≡ map (change_at false) (dead first history)
  pub start : kept.changes.start ≡ pos (start_of first history)
  -- the newest entries
  pub recent : map recent_tree kept.recent.items ≡ keep_last MOST_TOLD (trees_of history)
  pub capacity : kept.recent.capacity ≡ MOST_TOLD
  -- each presence was put by an entry, and there are clocks for the entries that remove all of them
  pub presences : length (records_with (is_presence (schema_tree kept.schema)) (records_of history)) ≤ length history
  pub bounded : length history + length (records_with (is_presence (schema_tree kept.schema)) (records_of history)) ≤ 2 ^ 54

-- a room keeps what there is to keep of some history
abbrev pub KeepsSome : Kept → Type 0
KeepsSome kept = (first : ℕ) × ((history : History) × Keeps first history kept)
