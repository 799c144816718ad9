-- For which worlds of the definitions a world of the code stands: it keeps each client's base in place of the history that the base
-- folds, and messages in place of the notices that they tell.
use Rattle.std.specs.Prelude.{◌≡◌, ℕ, false, option_map}
use Rattle.room_model.specs.Schemas.{WorldSchemas}
use Rattle.room_model.specs.Histories.{History}
use Rattle.room_model.specs.Replicas.{Client, session_of}
use Rattle.room_model.specs.Worlds as model
use Rattle.world_laws.specs.Reachable.{ReachableWorld}
use Rattle.world_laws.specs.Queues.{AreQueues}
use Rattle.world_laws.specs.Restoring.{ShowsSound}
use Rattle.clip_content.specs.View.{clip_tree}
use Rattle.sync_room.specs.Standing as room_of
use Rattle.side_effects.specs.declared.fault.EditFault.{EditFault}
use Rattle.peer_schemas.specs.Clients.{AreOfTables, schemas_of}
use Rattle.sync_peer.specs.Standing as peer_of
use Rattle.world_queues.specs.Queues.{to_room, to_client}
use Rattle.sync_world.specs.States.{client_state}
use Rattle.sync_world.specs.Keeping.{AreKept}
use Rattle.sync_world.specs.Sending.{sent_by}
use Rattle.sync_world.specs.declared.live.Live.{Live}
use Rattle.sync_world.specs.declared.live.WorldClient.{WorldClient}
use Rattle.sync_world.specs.declared.world.World.{World}

-- what is kept of a client: a peer that stands for it, its session, and its clip
pub record IsClient (schemas : WorldSchemas EditFault) (history : History) (client : Client) (kept : WorldClient) : Type 0 where
  pub peer : peer_of.Stands schemas (client_state schemas history client) kept.peer
  pub session : kept.session ≡ session_of client.connection
  pub clip : option_map clip_tree kept.clip ≡ client.clip

-- a world's parts stand for those of one of the definitions, but for what is in flight to clients; also while an event happens
pub record Fits (schemas : WorldSchemas EditFault) (world : model.World) (live : Live) : Type 0 where
  -- the tables decide, and the room by its own schema
  pub tables : AreOfTables schemas
  pub decided : schemas ≡ schemas_of (room_of.tree_of live.room)
  pub room : room_of.Stands world.room live.room
  pub clients : AreKept (IsClient schemas world.room.history) world.clients live.clients.items
  -- in flight to the room are the same messages
  pub sent : to_room live.queues ≡ sent_by world.channels

-- between events: the world can be reached, and in flight to each client is what the notices tell
pub record Keeps (schemas : WorldSchemas EditFault) (world : model.World) (live : Live) : Type 0 where
  pub reachable : ReachableWorld schemas world
  pub fits : Fits schemas world live
  pub given : AreQueues schemas world (to_client live.queues)

-- a world whose memory never ran out stands for one of the definitions
pub record Stands (schemas : WorldSchemas EditFault) (world : model.World) (code : World) : Type 0 where
  pub going : code.spent ≡ false
  pub keeps : Keeps schemas world code.live
  -- what each client shows is sound, as each map is that code keeps
  pub sound : (number : ℕ) → ShowsSound schemas world number

-- schemas are those of the tables, and the room's is at a version
abbrev pub IsAtVersion : ℕ → WorldSchemas EditFault → Type 0
IsAtVersion version schemas = (tables : AreOfTables schemas) × (tables.version ≡ version)
