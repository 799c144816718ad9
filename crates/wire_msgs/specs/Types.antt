-- The types of messages: the text of each, and the keys of its fields.
use Rattle.std.specs.Prelude.{ℕ, List, [], ◌∷◌, codes}
use Rattle.wire_msgs.specs.declared.types.ClientType.{ClientType}
use Rattle.wire_msgs.specs.declared.types.ClientType.TheVariants as client
use Rattle.wire_msgs.specs.declared.types.ServerType.{ServerType}
use Rattle.wire_msgs.specs.declared.types.ServerType.TheVariants as server

-- the text of a type of a client's messages
abbrev pub client_word : ClientType → List ℕ
client_word client.Connect = codes "connect"
client_word client.Push = codes "push"
client_word client.Ping = codes "ping"

-- the text of a type of a room's messages
abbrev pub server_word : ServerType → List ℕ
server_word server.Connect = codes "connect"
server_word server.Data = codes "data"
server_word server.Pong = codes "pong"

-- the keys that a type's messages have, and those that they may have beside
pub record Keys : Type 0 where
  pub wanted : List (List ℕ)
  pub allowed : List (List ℕ)

-- the keys of a client's messages
abbrev pub client_keys : ClientType → Keys
client_keys client.Connect = record {
  wanted = codes "connectRequestId" ∷ codes "lastServerClock" ∷ codes "protocolVersion" ∷ codes "schema" ∷ codes "type" ∷ [];
  allowed = [];
}
client_keys client.Push = record { wanted = codes "clientClock" ∷ codes "type" ∷ []; allowed = codes "diff" ∷ codes "presence" ∷ [] }
client_keys client.Ping = record { wanted = codes "type" ∷ []; allowed = [] }

-- the keys of a room's messages
abbrev pub server_keys : ServerType → Keys
server_keys server.Connect = record {
  wanted = codes "connectRequestId" ∷ codes "diff" ∷ codes "hydrationType" ∷ codes "isReadonly" ∷ codes "protocolVersion" ∷ codes "schema"
      ∷ codes "serverClock" ∷ codes "type" ∷ [];
  allowed = [];
}
server_keys server.Data = record { wanted = codes "data" ∷ codes "type" ∷ []; allowed = [] }
server_keys server.Pong = record { wanted = codes "type" ∷ []; allowed = [] }
