-- What a session was given and what it sent, by its events.
use Rattle.std.specs.Prelude.{◌≡◌, List, ◌++◌, filter_map, Option, Some, None}
use Rattle.room_events.specs.declared.room_event.RoomEvent.{RoomEvent}
use Rattle.room_events.specs.declared.room_event.RoomEvent.TheVariants as call
use Rattle.sync_msgs.specs.declared.client_message.ClientMessage.{ClientMessage}
use Rattle.sync_msgs.specs.declared.out.Out.{Out}
use Rattle.sync_msgs.specs.declared.out.Out.TheVariants as out
use Rattle.sync_msgs.specs.declared.server_message.ServerMessage.{ServerMessage}

-- the message that something given is, if it is one
abbrev pub message_of : Option Out → Option ServerMessage
message_of (Some (out.Message message)) = Some message
message_of (Some (out.End reason)) = None
message_of None = None

-- the message that a session is given by an event
abbrev pub given_by : RoomEvent → Option ServerMessage
given_by (call.Enter number readonly) = None
given_by (call.Message number said replied) = None
given_by (call.Drain number given) = message_of given
given_by (call.Leave number) = None

-- the message that a session sends by an event
abbrev pub sent_by : RoomEvent → Option ClientMessage
sent_by (call.Enter number readonly) = None
sent_by (call.Message number said replied) = Some said
sent_by (call.Drain number given) = None
sent_by (call.Leave number) = None

-- the messages that a session is given by its events, and those that it sends by them, in order
abbrev pub given_in : List RoomEvent → List ServerMessage
given_in mine = filter_map given_by mine

abbrev pub sent_in : List RoomEvent → List ClientMessage
sent_in mine = filter_map sent_by mine

module _ {X : Type 0} where
  -- a list begins with another
  abbrev pub BeginsWith : List X → List X → Type 0
  BeginsWith all first = (rest : List X) × (first ++ rest ≡ all)
