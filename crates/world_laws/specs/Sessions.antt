-- Whose sessions, channels and presences are in a world.
use Rattle.std.specs.Prelude.{◌≡◌, ℕ, ◌<◌, length, slice_get, true, Some}
use Rattle.room_model.specs.Rooms.{Phase, live, Session, Room, is_present}
use Rattle.room_model.specs.Schemas.{Plan}
use Rattle.room_model.specs.Replicas.{Client, session_of}
use Rattle.room_model.specs.Worlds.{World}

-- a session is the current one of a client: that on which it waits or is connected
pub record IsCurrent (world : World) (number session : ℕ) : Type 0 where
  pub client : Client
  pub made : slice_get world.clients number ≡ Some client
  pub has : session_of client.connection ≡ Some session

-- the sessions of a world
pub record AreSessions (world : World) : Type 0 where
  -- there is a channel for each session of the room, and no other
  pub channels : length world.channels ≡ length world.room.sessions
  -- the current session of each client has entered
  pub entered : (number session : ℕ) → IsCurrent world number session → session < length world.room.sessions
  -- and is that of no other client
  pub apart : (one other session : ℕ) → IsCurrent world one session → IsCurrent world other session → one ≡ other

-- a session is live
pub record IsLive (phase : Phase) : Type 0 where
  pub sent : ℕ
  pub plan : Plan
  pub is : phase ≡ live sent plan

-- the presence of a session is in the room only while that session is live
abbrev pub ArePresencesLive : Room → Type 0
ArePresencesLive room =
    (number : ℕ) (session : Session) → slice_get room.sessions number ≡ Some session → is_present number room ≡ true → IsLive session.phase
