-- The laws of messages, each the contract of a function of `laws.rt`.
use Rattle.std.specs.Prelude.{◌≡◌, ℕ, List, Result, IfOk, IfErr, MatchResult}
use Rattle.sync_msgs.specs.declared.client_message.ClientMessage.{ClientMessage}
use Rattle.sync_msgs.specs.declared.server_message.ServerMessage.{ServerMessage}
use Rattle.wire_msgs.specs.Messages.{client_val, server_val}
use Rattle.wire_msgs.specs.Readings.{IsClient, IsServer, RefusesClient, RefusesServer}
use Rattle.wire_msgs.specs.declared.fault.MsgFault.{MsgFault}
use Rattle.wire_msgs.specs.declared.fault.MsgFault.TheVariants as fault

-- each value is that of one message of a client at most
abbrev pub OneClientEach : Type 0
OneClientEach = (a b : ClientMessage) → client_val a ≡ client_val b → a ≡ b

-- each value is that of one message of a room at most
abbrev pub OneServerEach : Type 0
OneServerEach = (a b : ServerMessage) → server_val a ≡ server_val b → a ≡ b

-- a result that keeps the contract of `read_client` is, for a text that stands for a message, this message or `OutOfMemory`
abbrev pub ReadsTheClient : Type 0
ReadsTheClient = (bytes : List ℕ) (r : Result ClientMessage MsgFault) → IfOk r (IsClient bytes) → IfErr r (RefusesClient bytes)
    → (m : ClientMessage) → IsClient bytes m → MatchResult r (λ x. x ≡ m) (λ f. f ≡ fault.OutOfMemory)

-- the same of `read_server`
abbrev pub ReadsTheServer : Type 0
ReadsTheServer = (bytes : List ℕ) (r : Result ServerMessage MsgFault) → IfOk r (IsServer bytes) → IfErr r (RefusesServer bytes)
    → (m : ServerMessage) → IsServer bytes m → MatchResult r (λ x. x ≡ m) (λ f. f ≡ fault.OutOfMemory)
