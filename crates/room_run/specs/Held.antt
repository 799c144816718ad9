-- What is in the slot of a running room: a room, and its pen.
use Rattle.std.specs.Prelude.{◌≡◌, ℕ, ◌+◌, ◌≤◌, List, [], ◌∷◌, ◌++◌, length, count_by, true, false, Some, None}
use Rattle.room_model.specs.Schemas.{Schemas}
use Rattle.room_model.specs.Rooms.{next_for}
use Rattle.room_schemas.specs.Decided.{decided}
use Rattle.room_events.specs.Events.{events_of, number_of, has_leave, is_leave, count_entered}
use Rattle.room_events.specs.Legal.{Legal, state_of}
use Rattle.room_events.specs.declared.room_event.RoomEvent.{RoomEvent}
use Rattle.room_run.specs.Openings.{schemas_of, room_after}
use Rattle.room_run.specs.declared.views.Story.{Story}
use Rattle.sync_room.specs.Standing.{Stands, tree_of}
use Rattle.sync_room.specs.declared.room.Room.{Room}

-- a story with one event more
abbrev pub longer : Story → RoomEvent → Story
longer story event = record { opening = story.opening; pen = story.pen ++ event ∷ [] }

-- a session has entered by the events of a legal list, and hasn't left
abbrev pub IsInside : ℕ → List RoomEvent → Type 0
IsInside number pen = (number_of (events_of number pen) ≡ Some number) × (has_leave (events_of number pen) ≡ false)

-- the room has nothing to give to a session
abbrev pub IsDrained : ℕ → Story → Type 0
IsDrained number story = next_for (schemas_of story.opening) (room_after story) number ≡ None

module _ (schemas : Schemas) (last : ℕ) where
  -- the pen is legal, the room is the one after it, so many sessions are inside, and the pen has place for the leave of each
  pub record Carries (room : Room) (pen : List RoomEvent) (inside capacity : ℕ) : Type 0 where
    pub legal : Legal schemas last pen
    pub decides : decided (tree_of room) ≡ schemas
    pub stands : Stands (state_of schemas last pen) room
    pub counts : inside + count_by is_leave pen ≡ count_entered pen
    pub place : length pen + inside ≤ capacity
