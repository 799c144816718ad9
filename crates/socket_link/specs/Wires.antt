-- What a wire is, and what calls do to it.
use Rattle.std.specs.Prelude.{◌≡◌, ℕ, List, Some, Option}
use Rattle.sync_msgs.specs.declared.end_reason.EndReason.{EndReason}
use Rattle.tungstenite.specs.Heads.{Connected, Serves}
use Rattle.tungstenite.specs.Socket.{Socket, Writes}
use Rattle.tungstenite.specs.declared.protocol.WebSocketConfig.{WebSocketConfig}
use Rattle.websocket.specs.Connection.{write_step, close_step}
use Rattle.websocket.specs.Content.{text}
use Rattle.websocket.specs.declared.protocol.config.Role.{Role}
use Rattle.websocket.specs.declared.protocol.config.Role.TheVariants.{Client, Server}
use Rattle.websocket.specs.declared.protocol.frame.coding.CloseCode.TheVariants.{Library}
use Rattle.socket_link.specs.Reasons.{reason_text}
use Rattle.socket_link.specs.Sockets.{ReadsText}
use Rattle.socket_link.specs.declared.bounds.TheConstants.{LONGEST_MESSAGE, CLOSE_CODE}
use Rattle.socket_link.specs.declared.heard.Heard.{Heard}
use Rattle.socket_link.specs.declared.wire.Wire.{Wire}
use Rattle.socket_link.specs.declared.wire.Wire.TheVariants.{Fresh, Open}

-- a message and a frame have at most so many bytes
abbrev pub AreLimits : WebSocketConfig → Type 0
AreLimits config = (config.max_message_size ≡ Some LONGEST_MESSAGE) × (config.max_frame_size ≡ Some LONGEST_MESSAGE)

module _ {S : Type 0} where
  -- a socket that a handshake of this side gave, which has done nothing since
  abbrev pub Greeted : Role → Socket S → Type 0
  Greeted Server socket = Serves socket
  Greeted Client socket = (key : List ℕ) × Connected key socket

  -- one with these limits
  abbrev pub Shaken : Role → Socket S → Type 0
  Shaken role socket =
      Greeted role socket × (socket.conn.config.max_message_size ≡ Some LONGEST_MESSAGE)
      × (socket.conn.config.max_frame_size ≡ Some LONGEST_MESSAGE)

module _ {S K : Type 0} where
  -- the wire is open afterwards: with the socket that it had, or with one that a handshake gave
  abbrev pub Opened : Role → Wire S K → Wire S K → Type 0
  Opened role (Open old) (Open new) = new ≡ old
  Opened role (Fresh stream side) (Open new) = Shaken role new
  Opened role old new = ⊥

  -- the socket of the wire, or one that a handshake gave, became the new wire's in this way
  abbrev pub Does : Role → (Socket (Heard S) → Socket (Heard S) → Type 0) → Wire S K → Wire S K → Type 0
  Does role did (Open old) (Open new) = did old new
  Does role did (Fresh stream side) (Open new) = (old : Socket (Heard S)) × Shaken role old × did old new
  Does role did old new = ⊥

  -- a text of these bytes was read
  abbrev pub WireReads : Role → (Heard S → Option (List ℕ)) → Wire S K → Wire S K → List ℕ → Type 0
  WireReads role remaining old new bytes = Does role (λ before after. ReadsText remaining before after bytes) old new

  -- a text of these bytes was written
  abbrev pub WireSends : Role → (Heard S → Option (List ℕ)) → Wire S K → Wire S K → List ℕ → Type 0
  WireSends role contents old new bytes =
      Does role (λ before after. Writes contents before after (write_step before.conn (text bytes))) old new

  -- a close was written, with the code of a room's reasons and the text of this one
  abbrev pub WireCloses : Role → (Heard S → Option (List ℕ)) → Wire S K → Wire S K → EndReason → Type 0
  WireCloses role contents old new reason =
      Does role (λ before after. Writes contents before after
      (close_step before.conn (Some (Library CLOSE_CODE, reason_text reason)))) old new
