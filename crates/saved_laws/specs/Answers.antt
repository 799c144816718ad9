-- What a room tells without the presence of sessions.
use Rattle.std.specs.Prelude.{ℕ, List, filter, not}
use Rattle.field_ops.specs.RecordOps.{RecordOps}
use Rattle.room_model.specs.Histories.{History, dead}
use Rattle.room_model.specs.Schemas.{Schemas}
use Rattle.sync_msgs.specs.declared.server_message.ServerMessage.{ServerMessage}
use Rattle.sync_msgs.specs.declared.server_message.ServerMessage.TheVariants.{Connect, Data, Pong}

module _ (schemas : Schemas) where
  -- a diff without what it says of presences
  abbrev pub without_presence : RecordOps → RecordOps
  without_presence diff = filter (λ c. not (schemas.is_presence c.0)) diff

  -- the answer to a connect without what its diff says of presences; any other message as it is
  abbrev pub answer_without_presence : ServerMessage → ServerMessage
  answer_without_presence (Connect hydration request protocol versions diff clock readonly) = Connect hydration request protocol versions (without_presence diff) clock readonly
  answer_without_presence (Data events) = Data events
  answer_without_presence Pong = Pong

  -- the removed ids of the document that are remembered, each with the clock of its removal
  abbrev pub dead_of : ℕ → History → List (List ℕ × ℕ)
  dead_of first history = filter (λ p. schemas.is_document p.0) (dead first history)
