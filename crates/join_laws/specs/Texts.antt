-- What comes over a link for messages of a room, and that waits for a message give these in order.
use Rattle.std.specs.Prelude.{◌≡◌, ◌≤◌, ◌+◌, ℕ, List, [], ◌∷◌, ◌++◌, length, filter_map, IsUtf8, Option, Some, None}
use Rattle.client_link.specs.declared.hearing.TheConstants.{LONGEST_REPLY}
use Rattle.client_link.specs.declared.waiting.Heard.{Heard}
use Rattle.client_link.specs.declared.waiting.Heard.TheVariants.{Message, Refused, Lost, Idle}
use Rattle.room_link.specs.Exchange.{Arrival, text, idle}
use Rattle.rooms_val.specs.Json.{text_of}
use Rattle.sync_msgs.specs.declared.server_message.ServerMessage.{ServerMessage}
use Rattle.wire_msgs.specs.Messages.{server_val}
use Rattle.wire_msgs.specs.Readings.{IsServer}
use Rattle.wire_text.specs.Cutting.{IsCutInto}
use Rattle.wire_text.specs.Feeding.{PieceTree, Assembly, empty}
use Rattle.wire_text.specs.Streams.{AreSaid, Gives}
use Rattle.wire_text.specs.declared.piece.TheConstants.{MOST_TO_COME}

-- the text that an arrival is, if it is one
abbrev pub text_in : Arrival → Option (List ℕ)
text_in (text bytes) = Some bytes
text_in idle = None

-- the texts among arrivals, in order
abbrev pub texts_in : List Arrival → List (List ℕ)
texts_in arrivals = filter_map text_in arrivals

-- each text is in UTF-8
abbrev pub AreUtf8 : List (List ℕ) → Type 0
AreUtf8 [] = Unit {0}
AreUtf8 (bytes ∷ texts) = IsUtf8 bytes × AreUtf8 texts

-- these are the pieces of a message's text, which isn't too long and is read as the message again
pub record ArePieces (message : ServerMessage) (pieces : List (List ℕ)) : Type 0 where
  pub cut : IsCutInto (text_of (server_val message)) pieces
  pub few : length pieces ≤ MOST_TO_COME + 1
  pub utf8 : AreUtf8 pieces
  pub short : length (text_of (server_val message)) ≤ LONGEST_REPLY
  pub reads : IsServer (text_of (server_val message)) message

-- these texts are the pieces of messages, in order
abbrev pub AllPieces : List ServerMessage → List (List ℕ) → Type 0
AllPieces [] texts = texts ≡ []
AllPieces (message ∷ messages) texts = (first rest : List (List ℕ)) × (first ++ rest ≡ texts) × ArePieces message first × AllPieces messages rest

-- an assembler takes these texts as pieces in turn, and the last of them gives the text of a message
pub record Completes (before : Assembly) (texts : List (List ℕ)) (message : ServerMessage) : Type 0 where
  pub said : List PieceTree
  pub whole : List ℕ
  pub are : AreSaid said texts
  pub utf8 : AreUtf8 texts
  pub gives : Gives before said whole
  pub reads : IsServer whole message

-- by these texts an assembler gives these messages in order, and nothing else
abbrev pub AreDue : Assembly → List (List ℕ) → List ServerMessage → Type 0
AreDue before texts [] = texts ≡ []
AreDue before texts (message ∷ messages) =
    (first rest : List (List ℕ)) × (first ++ rest ≡ texts) × Completes before first message × AreDue (empty before.limit) rest messages

-- a wait gave the next message that is due, or ended with Idles, and the others are due then; or the link has ended, and nothing is due
abbrev pub GivesNext : Heard → Assembly → List (List ℕ) → List ServerMessage → Type 0
GivesNext (Message message) now texts messages = (rest : List ServerMessage) × (messages ≡ message ∷ rest) × AreDue now texts rest
GivesNext (Refused fault) now texts messages = ⊥
GivesNext Lost now texts messages = messages ≡ []
GivesNext Idle now texts messages = AreDue now texts messages
