-- What calls on a socket give.
use Rattle.std.specs.Prelude.{◌≡◌, ℕ, List, ⊤, Option, Result, Ok, Err}
use Rattle.tungstenite.specs.Socket.{Socket, Reads, content_of}
use Rattle.tungstenite.specs.declared.message.Message.{Message}
use Rattle.websocket.specs.Content.{text}
use Rattle.socket_link.specs.declared.exchange.Broken.{Broken}
use Rattle.socket_link.specs.declared.exchange.Came.{Came}
use Rattle.socket_link.specs.declared.exchange.Came.TheVariants as came
use Rattle.socket_link.specs.declared.heard.Heard.{Heard}

-- what is known of a stream that counts its reads is what is known of the stream in it
abbrev pub heard_by : {S : Type 0} → (S → Option (List ℕ)) → Heard S → Option (List ℕ)
heard_by known heard = known heard.stream

-- where a text came, this holds of its bytes
abbrev pub IfText : Result Came Broken → (List ℕ → Type 0) → Type 0
IfText (Ok (came.Text bytes)) holds = holds bytes.items
IfText (Ok other) holds = ⊤
IfText (Err broken) holds = ⊤

-- no text came
abbrev pub HasNoText : Result Came Broken → Type 0
HasNoText (Ok (came.Text bytes)) = ⊥
HasNoText (Ok other) = ⊤
HasNoText (Err broken) = ⊤

-- the socket read a message, which is a text of these bytes
abbrev pub ReadsText : {S : Type 0} → (S → Option (List ℕ)) → Socket S → Socket S → List ℕ → Type 0
ReadsText remaining old new bytes = (m : Message) × (content_of m ≡ text bytes) × Reads remaining old new (Ok m)
