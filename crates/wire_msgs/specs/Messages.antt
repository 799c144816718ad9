-- The one value by which each message is written, and the ranges of its fields.
use Rattle.std.specs.Prelude.{ℕ, ℤ, List, [], ◌∷◌, ◌++◌, codes, Option, Some, None, option_map, IfSome}
use Rattle.std.specs.Prelude as std
use Rattle.rooms_val.specs.Data.{Data, Pairs, boolean, whole, text, list, map, items_of, members_of}
use Rattle.field_ops.specs.RecordOps as op
use Rattle.field_ops.specs.RecordOps.{RecordOpTree, RecordOps, IsSoundDiff, IsSoundChange}
use Rattle.field_ops.specs.ViewRecordOps.{change_of}
use Rattle.field_ops.specs.WireRecordOps.{change_data, diff_data}
use Rattle.field_ops.specs.declared.record_op.RecordOp.{RecordOp}
use Rattle.migrate_seq.specs.Versions.{schema_of}
use Rattle.sync_msgs.specs.declared.client_message.ClientMessage.{ClientMessage}
use Rattle.sync_msgs.specs.declared.client_message.ClientMessage.TheVariants as client
use Rattle.sync_msgs.specs.declared.server_message.Hydration.{Hydration}
use Rattle.sync_msgs.specs.declared.server_message.Hydration.TheVariants as hydration
use Rattle.sync_msgs.specs.declared.server_message.ServerMessage.{ServerMessage}
use Rattle.sync_msgs.specs.declared.server_message.ServerMessage.TheVariants as server
use Rattle.wire_msgs.specs.Events.{typed, IsClock, event_val, AreProperEvents}
use Rattle.wire_msgs.specs.Types.{client_word, server_word}
use Rattle.wire_msgs.specs.declared.types.ClientType.TheVariants as from_client
use Rattle.wire_msgs.specs.declared.types.ServerType.TheVariants as from_server

-- the field with a key, where it has a value
abbrev pub maybe : List ℕ → Option Data → Pairs
maybe key None = []
maybe key (Some d) = (key, d) ∷ []

-- the value of a diff, where there is one
abbrev pub maybe_diff : Option RecordOps → Option Data
maybe_diff diff = option_map diff_data diff

-- the value of an operation, where there is one
abbrev pub maybe_op : Option RecordOp → Option Data
maybe_op op = option_map (λ o. change_data (change_of o)) op

-- the fields of a client's message, by key
abbrev pub client_fields : ClientMessage → Pairs
client_fields (client.Connect request clock version schema) =
    (codes "connectRequestId", text request) ∷ (codes "lastServerClock", whole clock) ∷ (codes "protocolVersion", whole version)
    ∷ (codes "schema", schema_of schema) ∷ typed (client_word from_client.Connect) ∷ []
client_fields (client.Push clock diff presence) =
    (codes "clientClock", whole clock) ∷ (maybe (codes "diff") (maybe_diff diff) ++ (maybe (codes "presence") (maybe_op presence)
    ++ typed (client_word from_client.Push) ∷ []))
client_fields client.Ping = typed (client_word from_client.Ping) ∷ []

-- the value of a client's message
abbrev pub client_val : ClientMessage → Data
client_val m = map (members_of (client_fields m))

-- an operation that a push may have for the client's presence: a put or a patch
abbrev pub IsPresence : RecordOpTree → Type 0
IsPresence (op.put d) = IsSoundChange (op.put d)
IsPresence (op.patch p) = IsSoundChange (op.patch p)
IsPresence op.remove = ⊥

-- a push counts from 0, and its presence is a put or a patch; diffs and operations are sound, as all that the code has
abbrev pub IsProperClient : ClientMessage → Type 0
IsProperClient (client.Connect request clock version schema) = Unit {0}
IsProperClient (client.Push clock diff presence) = IsClock clock × IfSome diff IsSoundDiff × IfSome presence (λ o. IsPresence (change_of o))
IsProperClient client.Ping = Unit {0}

-- the text of what a client keeps of its base
abbrev pub hydration_word : Hydration → List ℕ
hydration_word hydration.WipeAll = codes "wipe_all"
hydration_word hydration.WipePresence = codes "wipe_presence"

-- the fields of a room's message, by key
abbrev pub server_fields : ServerMessage → Pairs
server_fields (server.Connect keeps request version schema diff clock readonly) =
    (codes "connectRequestId", text request) ∷ (codes "diff", diff_data diff) ∷ (codes "hydrationType", text (hydration_word keeps))
    ∷ (codes "isReadonly", boolean readonly) ∷ (codes "protocolVersion", whole version) ∷ (codes "schema", schema_of schema)
    ∷ (codes "serverClock", whole clock) ∷ typed (server_word from_server.Connect) ∷ []
server_fields (server.Data events) = (codes "data", list (items_of (std.map event_val events))) ∷ typed (server_word from_server.Data) ∷ []
server_fields server.Pong = typed (server_word from_server.Pong) ∷ []

-- the value of a room's message
abbrev pub server_val : ServerMessage → Data
server_val m = map (members_of (server_fields m))

-- the clocks of a room's message count from 0; diffs are sound, as all that the code has
abbrev pub IsProperServer : ServerMessage → Type 0
IsProperServer (server.Connect keeps request version schema diff clock readonly) = IsSoundDiff diff × IsClock clock
IsProperServer (server.Data events) = AreProperEvents events
IsProperServer server.Pong = Unit {0}
