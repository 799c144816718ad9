-- A client on its way over a link, and that a session serves it over the link.
use Rattle.std.specs.Prelude.{◌≡◌, ℕ, List, Option, Some, None}
use Rattle.client_link.specs.Waiting.{Waits}
use Rattle.client_link.specs.declared.saying.Saying.{Saying}
use Rattle.client_link.specs.declared.waiting.Heard.{Heard}
use Rattle.client_link.specs.declared.waiting.Heard.TheVariants.{Message, Refused, Lost, Idle}
use Rattle.room_events.specs.declared.room_event.RoomEvent.{RoomEvent}
use Rattle.room_join.specs.declared.act.Act.{Act}
use Rattle.room_link.specs.Exchange.{Arrival}
use Rattle.room_model.specs.Schemas.{WorldSchemas}
use Rattle.side_effects.specs.declared.fault.EditFault.{EditFault}
use Rattle.sync_msgs.specs.declared.server_message.ServerMessage.{ServerMessage}
use Rattle.wire_text.specs.Feeding.{Assembly}
use Rattle.join_laws.specs.Sessions.{given_in, sent_in, BeginsWith}
use Rattle.join_laws.specs.Texts.{texts_in, AllPieces}
use Rattle.join_laws.specs.Ways.{Step, does, hears, idles, Way, messages_in, first_way, after_step}

-- the step that a wait is, which left these pieces waiting; none if a text was refused, or the link has ended
abbrev pub step_by : Heard → Assembly → Option Step
step_by (Message message) now = Some (hears message now)
step_by (Refused fault) now = None
step_by Lost now = None
step_by Idle now = Some (idles now)

-- where a client of a version comes to in a room by acts and waits, over a link over which this was to come; and what is still to come
-- then. Who didn't take a message waits for none
pub data Comes (schemas : WorldSchemas EditFault) (version room : ℕ) (coming : List Arrival) : Way → List Arrival → Type 0 where
  joined : Comes schemas version room coming (first_way schemas version room) coming
  acted : (way : Way) (left : List Arrival) (act : Act) → Comes schemas version room coming way left
      → Comes schemas version room coming (after_step schemas way (does act)) left
  waited : (way : Way) (left rest : List Arrival) (heard : Heard) (now : Assembly) (step : Step) → Comes schemas version room coming way left
      → way.fault ≡ None → Waits way.joiner.waiting left heard now rest → step_by heard now ≡ Some step
      → Comes schemas version room coming (after_step schemas way step) rest

-- a session with these events serves a client that said this, over a link over which that was to come
pub record ServesOver (mine : List RoomEvent) (coming : List Arrival) (said : List Saying) : Type 0 where
  pub messages : List ServerMessage
  -- the texts are the pieces of messages, no other text comes, and what the session was given begins with these messages
  pub pieces : AllPieces messages (texts_in coming)
  pub given : BeginsWith (given_in mine) messages
  -- what the client said begins with what the session sent
  pub sent : BeginsWith (messages_in said) (sent_in mine)
