-- What the calls of a client make of it and of its base, beside what `room_model` says.
use Rattle.std.specs.Prelude.{ℕ, ◌+◌, ◌*◌, ℤ, List, ◌++◌, length, take, map, decimal, Bool, true, false, Option, Some, option_map, option_to_list, unwrap_or, Result, Ok, Err}
use Rattle.std.specs.Option.{option_map_or}
use Rattle.rooms_val.specs.Data.{Data, Pairs}
use Rattle.field_ops.specs.RecordOps.{RecordOps}
use Rattle.migrate_seq.specs.Versions.{Versions}
use Rattle.sync_msgs.specs.declared.client_message.ClientMessage.{ClientMessage}
use Rattle.sync_msgs.specs.declared.client_message.ClientMessage.TheVariants as said
use Rattle.sync_msgs.specs.declared.data_event.DataEvent.{DataEvent}
use Rattle.sync_msgs.specs.declared.server_message.Hydration.{Hydration}
use Rattle.sync_msgs.specs.declared.server_message.Hydration.TheVariants.{WipeAll, WipePresence}
use Rattle.sync_msgs.specs.declared.server_message.ServerMessage.{ServerMessage}
use Rattle.sync_msgs.specs.declared.server_message.ServerMessage.TheVariants as message
use Rattle.room_model.specs.Replicas.{Client, Pushing, push_none, next_push, pending_diffs, all_unsent, edit, presence, session_of}
use Rattle.room_model.specs.Schemas.{records_with}
use Rattle.room_model.specs.Taking.{Replica, after_events, after_hydration}
use Rattle.room_model.specs.declared.connection.Connection.{Connection}
use Rattle.room_model.specs.declared.connection.Connection.TheVariants.{Off, Asking, Open}
use Rattle.room_model.specs.declared.fault.ConnectFault.{ConnectFault}
use Rattle.room_model.specs.declared.fault.ConnectFault.TheVariants.{AlreadyOpen, Refused}
use Rattle.room_model.specs.declared.limits.TheConstants.{PROTOCOL}
use Rattle.client_replica.specs.Works.{works_in, diffs_in, operations, brought, ended}
use Rattle.client_replica.specs.Owns.{are_own}
use Rattle.client_replica.specs.Parts.{wiped}
use Rattle.sync_client.specs.Faults.{clock_after}

-- why a client can't connect, if it can't
abbrev pub connect_fault : Client → Option ConnectFault
connect_fault client = option_map_or (λ session. Some AlreadyOpen) (session_of client.connection) (option_map (λ reason. Refused reason) client.refused)

-- a client that asks to be connected
abbrev pub asking : ℕ → Client → Client
asking request client = record client { connection = Asking request }

-- what it sends, if these are the versions of its schema
abbrev pub asks : Versions → ℕ → Client → ClientMessage
asks versions request client = said.Connect (decimal request) client.reached PROTOCOL versions

-- what a call returns by which a client asks to be connected
abbrev pub connect_answer : Versions → ℕ → Client → Result ClientMessage ConnectFault
connect_answer versions request client = option_map_or (λ fault. Err fault) (connect_fault client) (Ok (asks versions request client))

-- a client that pushed what is next to be pushed, and the push, if there is one
abbrev pub pushed : Client → Pushing
pushed client = unwrap_or (next_push client) (push_none client)

-- a client with its base
pub record ClientState : Type 0 where
  pub base : Pairs
  pub client : Client

-- the connection that an answer opens
abbrev pub opened : Connection → Connection
opened Off = Off
opened (Asking session) = Open session
opened (Open session) = Open session

-- what a snapshot makes of a client that asked: it is connected, and all is to be pushed, its presence last
abbrev pub after_answer : ℤ → Client → Client
after_answer clock client = record client {
  connection = opened client.connection;
  reached = clock;
  pending = all_unsent (map edit (pending_diffs client) ++ map presence (option_to_list client.presence));
}

-- the replica of a client
abbrev pub replica_of : ClientState → Replica
replica_of state = record { base = state.base; pending = state.client.pending }

-- a client with what events made of its replica, at a clock
abbrev pub with_replica : ℤ → Client → Replica → ClientState
with_replica clock client replica = record { base = replica.base; client = record client { reached = clock; pending = replica.pending } }

module _ (admits : List ℕ → Data → Bool) (is_doc : List ℕ → Bool) where
  -- a client with its base after an answer
  abbrev pub hydrated : Hydration → RecordOps → ℤ → ClientState → ClientState
  hydrated hydration diff clock state = record { base = after_hydration admits is_doc state.base hydration diff; client = after_answer clock state.client }

  -- a client with its base after events
  abbrev pub updated : List DataEvent → ClientState → ClientState
  updated events state = with_replica (clock_after state.client.reached events) state.client (after_events admits (replica_of state) events)

  -- the same after a message that it takes
  abbrev pub after_message : ClientState → ServerMessage → ClientState
  after_message state (message.Connect hydration request protocol schema diff clock readonly) = hydrated hydration diff clock state
  after_message state (message.Data events) = updated events state
  after_message state message.Pong = state

-- each event of a message commits the first of the pending works that are left, which names ids of the document alone
abbrev pub is_own_message : (List ℕ → Bool) → Client → ServerMessage → Bool
is_own_message is_doc client (message.Connect hydration request protocol schema diff clock readonly) = false
is_own_message is_doc client (message.Data events) = are_own is_doc (works_in client.pending) events
is_own_message is_doc client message.Pong = true

-- how many steps a message may take beside those of the pending edits, by which ids are the document's and the base
abbrev pub message_steps : (List ℕ → Bool) → Pairs → ServerMessage → ℕ
message_steps is_doc base (message.Connect hydration request protocol schema diff clock readonly) = length diff + wiped hydration (records_with is_doc base)
message_steps is_doc base (message.Data events) = brought events
message_steps is_doc base message.Pong = 0

-- how many steps an answer may take: those of its operations, and if the document is wiped also those of all that is pending and of the document
abbrev pub answer_steps : (List ℕ → Bool) → ClientState → Hydration → RecordOps → ℕ
answer_steps is_doc state WipeAll diff = 2 * operations (pending_diffs state.client) + (length diff + length (records_with is_doc state.base))
answer_steps is_doc state WipePresence diff = length diff

-- how many a message may take: data take those of the operations that they bring, and twice those of the works that they end
abbrev pub few_steps : (List ℕ → Bool) → ClientState → ServerMessage → ℕ
few_steps is_doc state (message.Connect hydration request protocol schema diff clock readonly) = answer_steps is_doc state hydration diff
few_steps is_doc state (message.Data events) = brought events + 2 * operations (diffs_in (take (ended events) (works_in state.client.pending)))
few_steps is_doc state message.Pong = 0
