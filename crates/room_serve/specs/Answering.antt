-- What a room makes of what comes over a link.
use Rattle.std.specs.Prelude.{◌≡◌, ℕ, List, [], ◌∷◌, ◌++◌, Option, None, Some}
use Rattle.link_texts.specs.Hearing.{IsHeard}
use Rattle.room_events.specs.declared.room_event.RoomEvent.{RoomEvent}
use Rattle.room_events.specs.declared.room_event.RoomEvent.TheVariants.{Message}
use Rattle.room_link.specs.Exchange.{Arrival, text, idle}
use Rattle.room_model.specs.declared.handled.Handled.{Handled}
use Rattle.room_run.specs.Calls.{given, given_all, given_idle, IsBegun}
use Rattle.sync_msgs.specs.declared.client_message.ClientMessage.{ClientMessage}
use Rattle.sync_msgs.specs.declared.out.Out.{Out}
use Rattle.wire_text.specs.Feeding.{Assembly}

-- what a room is asked over a link: it is sent a message, or nothing came for a while
pub data Input : Type 0 where
  said : ClientMessage → Input
  idled : Input

-- the message that a text completes, if it completes one
abbrev pub input_of : Option ClientMessage → List Input
input_of None = []
input_of (Some message) = said message ∷ []

-- arrivals, each taken by the assembler that the one before it left, say these inputs
abbrev pub AreHeard : Assembly → List Arrival → List Input → Assembly → Type 0
AreHeard before [] inputs now = (inputs ≡ []) × (now ≡ before)
AreHeard before (idle ∷ arrivals) inputs now =
    (more : List Input) × AreHeard before arrivals more now × (inputs ≡ idled ∷ more)
AreHeard before (text bytes ∷ arrivals) inputs now =
    (message : Option ClientMessage) × (next : Assembly) × (more : List Input)
    × IsHeard before bytes message next × AreHeard next arrivals more now × (inputs ≡ input_of message ++ more)

-- a session's events by an input, and what it was given by them
abbrev pub IsAnswered : ℕ → Input → List RoomEvent → List Out → Type 0
IsAnswered number (said message) events outs =
    (reply : Handled) × (events ≡ Message number message reply ∷ given_all number outs)
IsAnswered number idled events outs = events ≡ given_idle number outs

-- the same of some inputs, in order
abbrev pub AreAnswered : ℕ → List Input → List RoomEvent → List Out → Type 0
AreAnswered number [] events outs = (events ≡ []) × (outs ≡ [])
AreAnswered number (input ∷ inputs) events outs =
    (first rest : List RoomEvent) × (given more : List Out)
    × IsAnswered number input first given × AreAnswered number inputs rest more
    × (events ≡ first ++ rest) × (outs ≡ given ++ more)

-- the events of an input whose call ran out of memory; what they gave is lost
abbrev pub IsCut : ℕ → List Input → List RoomEvent → Type 0
IsCut number [] events = events ≡ []
IsCut number (said message ∷ []) events = IsBegun number message events
IsCut number (idled ∷ []) events = (lost : List Out) × (events ≡ given number lost)
IsCut number (input ∷ other ∷ inputs) events = ⊥
