-- What the room that was opened says of all that happens in a running room.
use Rattle.std.specs.Prelude.{ℕ, nat_abs}
use Rattle.std.specs.declared.snapshot.Snapshot.{Snapshot}
use Rattle.room_model.specs.Rooms as model
use Rattle.room_model.specs.Schemas.{Schemas}
use Rattle.room_events.specs.Legal.{state_of}
use Rattle.room_run.specs.declared.views.Story.{Story}
use Rattle.room_schemas.specs.Decided.{decided}
use Rattle.sync_room.specs.Standing.{tree_of}
use Rattle.sync_room.specs.declared.room.Room.{Room}

-- a room as it was opened
abbrev pub Opening : Type 0
Opening = Snapshot Room

-- what its schema decides
abbrev pub schemas_of : Opening → Schemas
schemas_of opening = decided (tree_of opening.value)

-- the clock from which on it refuses pushes
abbrev pub last_of : Opening → ℕ
last_of opening = nat_abs opening.value.last

-- the room after some events
abbrev pub room_after : Story → model.Room
room_after story = state_of (schemas_of story.opening) (last_of story.opening) story.pen
