-- What the readers of single fields and of the fields of one type say.
use Rattle.std.specs.Prelude.{◌≡◌, ℕ, ℤ, List, [], ◌∷◌, Bool, Option, Some, None, if◌then◌else◌}
use Rattle.std.specs.Str.{bytes_eq}
use Rattle.rooms_val.specs.Data.{Data, Pairs}
use Rattle.field_ops.specs.RecordOps.{RecordOps}
use Rattle.field_ops.specs.declared.record_op.RecordOp.{RecordOp}
use Rattle.migrate_seq.specs.Versions.{Versions}
use Rattle.sync_msgs.specs.declared.client_message.ClientMessage.TheVariants as client
use Rattle.sync_msgs.specs.declared.data_event.DataEvent.{DataEvent}
use Rattle.sync_msgs.specs.declared.server_message.Hydration.{Hydration}
use Rattle.sync_msgs.specs.declared.server_message.ServerMessage.TheVariants as server
use Rattle.wire_msgs.specs.Messages.{client_fields, IsProperClient, server_fields, IsProperServer}
use Rattle.wire_msgs.specs.declared.types.ClientType.{ClientType}
use Rattle.wire_msgs.specs.declared.types.ClientType.TheVariants as from_client
use Rattle.wire_msgs.specs.declared.types.ServerType.{ServerType}
use Rattle.wire_msgs.specs.declared.types.ServerType.TheVariants as from_server

-- the value of the first field, where that has the key
abbrev pub first_at : List ℕ → Pairs → Option Data
first_at key [] = None
first_at key (p ∷ ps) = if bytes_eq p.0 key then Some p.1 else None

-- the fields past a first one with the key
abbrev pub past : List ℕ → Pairs → Pairs
past key [] = []
past key (p ∷ ps) = if bytes_eq p.0 key then ps else p ∷ ps

-- the fields are those of no message of the type
abbrev pub IsOfNoClient : ClientType → Pairs → Type 0
IsOfNoClient from_client.Connect ps = (request : List ℕ) (clock version : ℤ) (schema : Versions) → ¬ (ps ≡ client_fields (client.Connect request clock version schema))
IsOfNoClient from_client.Push ps = (clock : ℤ) (diff : Option RecordOps) (presence : Option RecordOp) → IsProperClient (client.Push clock diff presence)
    → ¬ (ps ≡ client_fields (client.Push clock diff presence))
IsOfNoClient from_client.Ping ps = ¬ (ps ≡ client_fields client.Ping)

abbrev pub IsOfNoServer : ServerType → Pairs → Type 0
IsOfNoServer from_server.Connect ps =
    (keeps : Hydration) (request : List ℕ) (version : ℤ) (schema : Versions) (diff : RecordOps) (clock : ℤ) (readonly : Bool)
    → IsProperServer (server.Connect keeps request version schema diff clock readonly)
    → ¬ (ps ≡ server_fields (server.Connect keeps request version schema diff clock readonly))
IsOfNoServer from_server.Data ps = (events : List DataEvent) → IsProperServer (server.Data events) → ¬ (ps ≡ server_fields (server.Data events))
IsOfNoServer from_server.Pong ps = ¬ (ps ≡ server_fields server.Pong)
