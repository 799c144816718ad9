-- Who changes presences, and what entries without author are.
use Rattle.std.specs.Prelude.{◌≡◌, ℕ, [], ◌∷◌, ◌++◌, true, false, None}
use Rattle.rooms_val.specs.Maps.{value_at}
use Rattle.room_model.specs.Schemas.{Schemas, presence_id}
use Rattle.room_model.specs.Histories.{History, records_of}
use Rattle.room_model.specs.Closing.{is_closed}
use Rattle.room_model.specs.Reachable.{IsBeginning}
use Rattle.room_model.specs.Rooms.{Room, removal}

-- each entry without author removes the presence of a session that is ended in a room, or has left it
abbrev pub AllRemovals : Room → History → Type 0
AllRemovals room [] = Unit {0}
AllRemovals room (entry ∷ history) =
    (entry.author ≡ None → (number : ℕ) × (entry ≡ removal number) × (is_closed room number ≡ true)) × AllRemovals room history

-- the entries of a room go on from those with which it began: each later one that has no author removes the presence of a session that
-- is ended, or has left
pub record GoesOnByRemovals (schemas : Schemas) (room : Room) : Type 0 where
  pub first : Room
  pub beginning : IsBeginning schemas first
  pub later : History
  pub appended : room.history ≡ later ++ first.history
  pub removals : AllRemovals room later

-- the presence of a session is in both rooms what it is in the other
abbrev pub HasSamePresence : ℕ → Room → Room → Type 0
HasSamePresence number before after = value_at (records_of after.history) (presence_id number) ≡ value_at (records_of before.history) (presence_id number)

-- each of some entries that has no author removes the presence of a session that was closed between two rooms
abbrev pub AreOfClosed : Room → Room → History → Type 0
AreOfClosed before after [] = Unit {0}
AreOfClosed before after (entry ∷ entries) =
    (entry.author ≡ None → (number : ℕ) × (entry ≡ removal number) × (is_closed before number ≡ false) × (is_closed after number ≡ true))
    × AreOfClosed before after entries

-- a room's history went on by entries on top, of which each without author removes the presence of a session that was closed meanwhile
pub record GoesOnByClosing (before after : Room) : Type 0 where
  pub fresh : History
  pub appended : after.history ≡ fresh ++ before.history
  pub closes : AreOfClosed before after fresh
