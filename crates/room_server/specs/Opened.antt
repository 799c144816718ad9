-- Rooms as they are opened, and as they are closed.
use Rattle.std.specs.Prelude.{◌≡◌}
use Rattle.room_events.specs.Legal.{Legal, state_of}
use Rattle.room_model.specs.Rooms as model
use Rattle.room_model.specs.Schemas.{Schemas}
use Rattle.room_model.specs.declared.limits.TheConstants.{LAST_CLOCK}
use Rattle.room_run.specs.Openings as opened
use Rattle.room_run.specs.Rooms.{opening_of}
use Rattle.room_run.specs.declared.close.Closed.{Closed}
use Rattle.room_run.specs.declared.running.RunningRoom.{RunningRoom}
use Rattle.room_schemas.specs.Decided.{decided}
use Rattle.schema_core.specs.Tree.{SchemaTree}
use Rattle.sync_room.specs.Standing.{Stands, tree_of}
use Rattle.tl_tables.specs.Tables.{IsSchemaAt}

-- a schema of version 3 decides so
pub record IsOfVersion (schemas : Schemas) : Type 0 where
  pub tree : SchemaTree
  pub version : IsSchemaAt 3 tree
  pub decides : schemas ≡ decided tree

-- a running room has the schema of version 3, and refuses pushes from the greatest clock on
pub record IsOpened (room : RunningRoom) : Type 0 where
  pub version : IsOfVersion (opened.schemas_of (opening_of room))
  pub last : opened.last_of (opening_of room) ≡ LAST_CLOCK

-- what the schema of a closed room decides, and what the room is after its pen
abbrev pub schemas_of : Closed → Schemas
schemas_of closed = decided (tree_of closed.room)

abbrev pub state_of_pen : Closed → model.Room
state_of_pen closed = state_of (schemas_of closed) LAST_CLOCK closed.pen

-- a closed room had the schema of version 3, its pen is legal, and the room is the one after the pen
pub record IsClosed (closed : Closed) : Type 0 where
  pub version : IsOfVersion (schemas_of closed)
  pub legal : Legal (schemas_of closed) LAST_CLOCK closed.pen
  pub room : Stands (state_of_pen closed) closed.room
