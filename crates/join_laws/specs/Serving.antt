-- That a session of a room serves a client on its way.
use Rattle.std.specs.Prelude.{List}
use Rattle.room_events.specs.declared.room_event.RoomEvent.{RoomEvent}
use Rattle.join_laws.specs.Sessions.{given_in, sent_in, BeginsWith}
use Rattle.join_laws.specs.Ways.{Way, messages_in}

-- a session with these events serves a client
pub record Serves (mine : List RoomEvent) (way : Way) : Type 0 where
  -- what the session was given begins with what came to the client
  pub came : BeginsWith (given_in mine) way.came
  -- what the client said begins with what the session sent
  pub said : BeginsWith (messages_in way.said) (sent_in mine)
