-- Which rooms calls make, where the sent clocks of their sessions lie, and whose presences are in them.
use Rattle.std.specs.Prelude.{◌≡◌, ℕ, ◌-◌, ◌≤◌, min, pos, List, slice_get, length, Bool, true, false, ◌||◌, Some, None, is_some}
use Rattle.rooms_val.specs.Maps.{AreRising, value_at}
use Rattle.room_model.specs.Schemas.{Schemas, presence_id}
use Rattle.room_model.specs.Histories.{records_of}
use Rattle.room_model.specs.Accepting.{pushed_diff}
use Rattle.room_model.specs.Rooms.{Phase, live, Session, Room, new_room, start, is_ended, has_left, enter, after_message, Replied, after_leave, next_for, Given, after_drain}
use Rattle.room_model.specs.Saves.{load_fault, begun_room}
use Rattle.room_model.specs.declared.limits.TheConstants.{MOST_TOLD}
use Rattle.room_model.specs.declared.saved.SavedRoom.{SavedRoom}
use Rattle.sync_msgs.specs.declared.client_message.ClientMessage.{ClientMessage}
use Rattle.sync_msgs.specs.declared.client_message.ClientMessage.TheVariants as message

-- a session is ended or has left
abbrev pub is_over : Phase → Bool
is_over phase = is_ended phase || has_left phase

-- the ids of a message's diff rise, as those of every diff do
abbrev pub IsRising : ClientMessage → Type 0
IsRising (message.Connect request reached protocol versions) = Unit {0}
IsRising (message.Push client_clock diff presence) = AreRising (pushed_diff diff)
IsRising message.Ping = Unit {0}

-- the rooms with which calls begin: a new one, and one that begins from a saved one, if that can be loaded
pub data IsBeginning (schemas : Schemas) : Room → Type 0 where
  anew : (last : ℕ) → IsBeginning schemas (new_room last)
  loaded : (last : ℕ) (saved : SavedRoom) → load_fault schemas (pos last) saved ≡ None → IsBeginning schemas (begun_room last saved)

-- the rooms that calls make, each from one with which they begin or that they made before
pub data Reachable (schemas : Schemas) : Room → Type 0 where
  begins : (room : Room) → IsBeginning schemas room → Reachable schemas room
  entered : (readonly : Bool) (room after : Room) → Reachable schemas room → enter readonly room ≡ Some after → Reachable schemas after
  received : (session : ℕ) (said : ClientMessage) (room : Room) (replied : Replied)
      → Reachable schemas room → IsRising said → after_message schemas room session said ≡ Some replied → Reachable schemas replied.room
  drained : (session : ℕ) (given : Given) (room : Room)
      → Reachable schemas room → next_for schemas room session ≡ Some given → Reachable schemas (after_drain room session given)
  left : (session : ℕ) (room after : Room) → Reachable schemas room → after_leave room session ≡ Some after → Reachable schemas after

-- where the sent clock of a live session lies: at most at the clock, and not so far behind both the start and the clock that what it
-- wasn't sent can't be told it
abbrev pub IsSentNear : ℕ → ℕ → Phase → Type 0
IsSentNear start clock (live sent plan) = (sent ≤ clock) × (min start (clock - MOST_TOLD) ≤ sent)
IsSentNear start clock phase = Unit {0}

-- the same of each session of a room
abbrev pub AreSentNear : Room → Type 0
AreSentNear room =
    (number : ℕ) (session : Session) → slice_get room.sessions number ≡ Some session
    → IsSentNear (start room) (length room.history) session.phase

-- an id is that of the presence of a session, which is in the room and isn't ended
pub record HasOwner (id : List ℕ) (sessions : List Session) : Type 0 where
  pub number : ℕ
  pub session : Session
  pub at : slice_get sessions number ≡ Some session
  pub unended : is_over session.phase ≡ false
  pub own : id ≡ presence_id number

-- each id of a room's records that is no document's is such an id
abbrev pub ArePresencesOwned : Schemas → Room → Type 0
ArePresencesOwned schemas room =
    (id : List ℕ) → schemas.is_document id ≡ false → is_some (value_at (records_of room.history) id) ≡ true
    → HasOwner id room.sessions
