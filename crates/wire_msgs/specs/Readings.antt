-- Which texts stand for a message, and why a text stands for none.
use Rattle.std.specs.Prelude.{◌≡◌, ℕ, nat_le, List, codes, if◌then◌else◌, Option, Some, None, option_and_then, Result, Ok, Err}
use Rattle.rooms_val.specs.Data.{Data, depth}
use Rattle.rooms_val.specs.Json.{value_of}
use Rattle.rooms_val.specs.Kinds.{as_map, as_text, field}
use Rattle.rooms_val.specs.declared.fault.ValFault.{ValFault}
use Rattle.rooms_val.specs.declared.fault.ValFault.TheVariants as val_fault
use Rattle.sync_msgs.specs.declared.client_message.ClientMessage.{ClientMessage}
use Rattle.sync_msgs.specs.declared.server_message.ServerMessage.{ServerMessage}
use Rattle.wire_msgs.specs.Keys.{keys_fault}
use Rattle.wire_msgs.specs.Messages.{client_val, IsProperClient, server_val, IsProperServer}
use Rattle.wire_msgs.specs.Types.{Keys, client_word, client_keys, server_word, server_keys}
use Rattle.wire_msgs.specs.declared.fault.MsgFault.{MsgFault}
use Rattle.wire_msgs.specs.declared.fault.MsgFault.TheVariants as fault
use Rattle.wire_msgs.specs.declared.read.TheConstants.{DEEPEST_FROM_CLIENT}
use Rattle.wire_msgs.specs.declared.types.ClientType.{ClientType}
use Rattle.wire_msgs.specs.declared.types.ServerType.{ServerType}

-- a value that is read, or `TooDeep` where it is deeper than this
abbrev pub no_deeper : ℕ → Result Data ValFault → Result Data ValFault
no_deeper levels (Ok d) = if nat_le (depth d) levels then Ok d else Err val_fault.TooDeep
no_deeper levels (Err f) = Err f

-- what the text of a client is read as: so deep that what the room sends on of it is still read
abbrev pub client_value_of : List ℕ → Result Data ValFault
client_value_of bytes = no_deeper DEEPEST_FROM_CLIENT (value_of bytes)

-- the text stands for the client's message
abbrev pub IsClient : List ℕ → ClientMessage → Type 0
IsClient bytes m = (client_value_of bytes ≡ Ok (client_val m)) × IsProperClient m

-- the text stands for the room's message
abbrev pub IsServer : List ℕ → ServerMessage → Type 0
IsServer bytes m = (value_of bytes ≡ Ok (server_val m)) × IsProperServer m

-- the value is that of no message of a client
abbrev pub IsNoClient : Data → Type 0
IsNoClient d = (m : ClientMessage) → IsProperClient m → ¬ (d ≡ client_val m)

-- the value is that of no message of a room
abbrev pub IsNoServer : Data → Type 0
IsNoServer d = (m : ServerMessage) → IsProperServer m → ¬ (d ≡ server_val m)

-- the text under `type`, where the value is a map and has one there
abbrev pub type_in : Data → Option (List ℕ)
type_in d = option_and_then as_text (field d (codes "type"))

-- the value has a type's text, and its keys have this fault, or none, as those of the type
pub record IsOfType (d : Data) (word : List ℕ) (keys : Keys) (fault : Option MsgFault) : Type 0 where
  pub says : type_in d ≡ Some word
  pub has : option_and_then (keys_fault keys) (as_map d) ≡ fault

-- the value's type is one of a client's, and its keys have this fault, or none
abbrev pub IsOfClientType : Data → Option MsgFault → Type 0
IsOfClientType d f = (kind : ClientType) × IsOfType d (client_word kind) (client_keys kind) f

-- the same of a room's
abbrev pub IsOfServerType : Data → Option MsgFault → Type 0
IsOfServerType d f = (kind : ServerType) × IsOfType d (server_word kind) (server_keys kind) f

-- the cause of each fault of a value that is read as a client's message; `OutOfMemory` alone has none
abbrev pub RefusesClientVal : Data → MsgFault → Type 0
RefusesClientVal d (fault.Val f) = ⊥
RefusesClientVal d fault.UnknownType = (kind : ClientType) → ¬ (type_in d ≡ Some (client_word kind))
RefusesClientVal d fault.MissingField = IsOfClientType d (Some fault.MissingField)
RefusesClientVal d fault.ExtraField = IsOfClientType d (Some fault.ExtraField)
RefusesClientVal d fault.WrongKind = IsOfClientType d None × IsNoClient d
RefusesClientVal d fault.OutOfMemory = Unit {0}

-- the cause of each fault of a value that is read as a room's message
abbrev pub RefusesServerVal : Data → MsgFault → Type 0
RefusesServerVal d (fault.Val f) = ⊥
RefusesServerVal d fault.UnknownType = (kind : ServerType) → ¬ (type_in d ≡ Some (server_word kind))
RefusesServerVal d fault.MissingField = IsOfServerType d (Some fault.MissingField)
RefusesServerVal d fault.ExtraField = IsOfServerType d (Some fault.ExtraField)
RefusesServerVal d fault.WrongKind = IsOfServerType d None × IsNoServer d
RefusesServerVal d fault.OutOfMemory = Unit {0}

-- the cause of each fault of a text that is read as a value, and the value then as a message
abbrev pub RefusesText : (Data → MsgFault → Type 0) → Result Data ValFault → MsgFault → Type 0
RefusesText refuses read (fault.Val f) = read ≡ Err f
RefusesText refuses read fault.UnknownType = (d : Data) × (read ≡ Ok d) × refuses d fault.UnknownType
RefusesText refuses read fault.MissingField = (d : Data) × (read ≡ Ok d) × refuses d fault.MissingField
RefusesText refuses read fault.ExtraField = (d : Data) × (read ≡ Ok d) × refuses d fault.ExtraField
RefusesText refuses read fault.WrongKind = (d : Data) × (read ≡ Ok d) × refuses d fault.WrongKind
RefusesText refuses read fault.OutOfMemory = Unit {0}

-- the cause of each fault of a text that is read as a client's message
abbrev pub RefusesClient : List ℕ → MsgFault → Type 0
RefusesClient bytes = RefusesText RefusesClientVal (client_value_of bytes)

-- the cause of each fault of a text that is read as a room's message
abbrev pub RefusesServer : List ℕ → MsgFault → Type 0
RefusesServer bytes = RefusesText RefusesServerVal (value_of bytes)
