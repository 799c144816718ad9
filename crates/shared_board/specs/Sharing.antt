-- What the clients of a board share once everything has arrived.
use Rattle.std.specs.Prelude.{◌≡◌, ℕ, ◌<◌, [], slice_get, Some}
use Rattle.room_model.specs.Schemas.{WorldSchemas}
use Rattle.room_model.specs.Rooms.{Session}
use Rattle.room_model.specs.Replicas.{Client, pending_diffs}
use Rattle.room_model.specs.Worlds.{World, shown_in}
use Rattle.room_model.specs.declared.connection.Connection.TheVariants.{Open}
use Rattle.room_model.specs.declared.limits.TheConstants.{MOST_CLIENTS, MOST_PUSHES}
use Rattle.side_effects.specs.declared.fault.EditFault.{EditFault}
use Rattle.world_laws.specs.Sessions.{IsLive}
use Rattle.sync_world.specs.CaughtUp.{IsOfRoom}
use Rattle.shared_board.specs.declared.board.Board.{Board}
use Rattle.shared_board.specs.Standing.{Stands}

-- a client is connected by a session that the room holds, and made fewer pushes than it may
pub record IsConnected (state : World) (number : ℕ) (client : Client) : Type 0 where
  pub joined : slice_get state.clients number ≡ Some client
  pub few : number < MOST_CLIENTS
  pub session : ℕ
  pub connected : client.connection ≡ Open session
  pub held : Session
  pub there : slice_get state.room.sessions session ≡ Some held
  pub live : IsLive held.phase
  pub may_push : client.pushes < MOST_PUSHES

-- each client that is connected owes no edit, and shows the room's document, seen at its version
pub record IsShared (schemas : WorldSchemas EditFault) (state : World) : Type 0 where
  pub owes : (number : ℕ) (client : Client) → IsConnected state number client → pending_diffs client ≡ []
  pub shows : (number : ℕ) (client : Client) → IsConnected state number client → IsOfRoom schemas state client (shown_in schemas state client)

-- the board stands for a world in which it is so
abbrev pub Shares : WorldSchemas EditFault → Board → Type 0
Shares schemas board = (state : World) × Stands schemas state board × IsShared schemas state
