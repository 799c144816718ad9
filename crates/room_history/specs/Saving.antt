-- What is saved of a history.
use Rattle.std.specs.Prelude.{◌≡◌, ℕ, ℤ, pos, List, length, map, Bool, if◌then◌else◌, Option, Some, None}
use Rattle.rooms_val.specs.Data.{Data}
use Rattle.rooms_val.specs.Maps.{AreRising, value_at}
use Rattle.rooms_val.specs.View.{data_of}
use Rattle.room_model.specs.Histories.{History, records_of, last_clock, start_of, dead}
use Rattle.room_model.specs.Saves.{own_id}
use Rattle.room_model.specs.Schemas.{records_with}
use Rattle.room_model.specs.declared.saved.SavedRecord.{SavedRecord}
use Rattle.room_model.specs.declared.saved.SavedRoom.{SavedRoom}
use Rattle.room_model.specs.declared.saved.SavedTomb.{SavedTomb}

-- a saved record with the id that it says, and its clock
abbrev pub with_own_id : SavedRecord → Option (List ℕ) × (Data × ℤ)
with_own_id saved = (own_id saved, (data_of saved.record, saved.clock))

-- removed ids that are saved, each with its clock
abbrev pub clocks_of : List SavedTomb → List (List ℕ × ℤ)
clocks_of tombs = map (λ t. (t.id, t.clock)) tombs

-- this is saved of a history, in a room that began with a first start, where a test tells the ids of the document
pub record IsSavedOf (is_document : List ℕ → Bool) (first : ℕ) (history : History) (saved : SavedRoom) : Type 0 where
  pub clock : saved.clock ≡ pos (length history)
  pub start : saved.start ≡ pos (start_of first history)
  -- the records of the document by rising id, each of which says its id, with the clock of the last entry that names it
  pub documents : map with_own_id saved.documents.items ≡ map (λ p. (Some p.0, (p.1, pos (last_clock history p.0)))) (records_with is_document (records_of history))
  -- the removed ids by rising id, none of them twice: those of the document that are remembered, with the clocks of their removals
  pub rising : AreRising (clocks_of saved.tombstones.items)
  pub removed : (id : List ℕ) → value_at (clocks_of saved.tombstones.items) id ≡ (if is_document id then value_at (map (λ p. (p.0, pos p.1)) (dead first history)) id else None)
