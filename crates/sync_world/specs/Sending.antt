-- What is in flight from sessions to their room.
use Rattle.std.specs.Prelude.{List, map}
use Rattle.room_model.specs.Worlds.{Channel}
use Rattle.sync_msgs.specs.declared.client_message.ClientMessage.{ClientMessage}

-- what the session of a channel sent
abbrev pub sent_in : Channel → List ClientMessage
sent_in channel = channel.to_room

-- what the sessions of channels sent
abbrev pub sent_by : List Channel → List (List ClientMessage)
sent_by channels = map sent_in channels
