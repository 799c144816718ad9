-- What a client shows that has caught up with the room.
use Rattle.std.specs.Prelude.{◌≡◌, ℕ, pos, [], length, slice_get, Some, Ok}
use Rattle.rooms_val.specs.Data.{Pairs}
use Rattle.room_model.specs.Schemas.{WorldSchemas, Plan, doc, seen_along}
use Rattle.room_model.specs.Histories.{records_of}
use Rattle.room_model.specs.Replicas.{Client, pending_diffs, plan_of}
use Rattle.room_model.specs.Worlds as model
use Rattle.side_effects.specs.declared.fault.EditFault.{EditFault}
use Rattle.sync_peer.specs.Calls as peers
use Rattle.sync_world.specs.Standing.{Stands}
use Rattle.sync_world.specs.declared.live.WorldClient.{WorldClient}
use Rattle.sync_world.specs.declared.world.World.{World}

-- a client has caught up with the room: it owes no edit, and has reached the room's clock
pub record HasCaughtUp (world : model.World) (client : Client) : Type 0 where
  pub owes : pending_diffs client ≡ []
  pub reached : client.reached ≡ pos (length world.room.history)

-- a document is the room's, seen at the version of a client
pub record IsOfRoom (schemas : WorldSchemas EditFault) (world : model.World) (client : Client) (document : Pairs) : Type 0 where
  pub plan : Plan
  pub leads : plan_of schemas client ≡ Ok plan
  pub seen : document ≡ seen_along schemas.room plan (doc schemas.room (records_of world.room.history))

-- the peer of each client that has caught up shows the room's document, seen at the client's version
abbrev pub CaughtUpShowTheRoom : World → Type 0
CaughtUpShowTheRoom code =
    (schemas : WorldSchemas EditFault) (world : model.World) (number : ℕ) (client : Client) (kept : WorldClient)
    → Stands schemas world code → slice_get world.clients number ≡ Some client → slice_get code.live.clients.items number ≡ Some kept
    → HasCaughtUp world client → IsOfRoom schemas world client (peers.records_of kept.peer.client.replica.store)
