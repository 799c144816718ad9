-- What is in flight from the room to a client, on the client's current session.
use Rattle.std.specs.Prelude.{◌≡◌, ℕ, ◌<◌, ℤ, pos, List, [], ◌∷◌, slice_get, true, Option, Some, None}
use Rattle.room_model.specs.Rooms.{Phase, new, asked, live, ended, gone, Session, Notice, snapshot_at, updates_between, pong, end}
use Rattle.room_model.specs.Replicas.{Client, session_of}
use Rattle.room_model.specs.Worlds.{Channel, World}
use Rattle.room_model.specs.declared.connection.Connection.{Connection}
use Rattle.room_model.specs.declared.connection.Connection.TheVariants.{Off, Asking, Open}
use Rattle.sync_msgs.specs.declared.client_message.ClientMessage.{ClientMessage}
use Rattle.sync_msgs.specs.declared.client_message.ClientMessage.TheVariants as message

-- notices lead a client from one place to another. A place is the clock at which the client is connected, or none while it waits
-- for its answer: that is the first to come, there is no second, and what changed begins where what came before it ended.
abbrev pub Lead : Option ℕ → List Notice → Option ℕ → Type 0
Lead place [] last = place ≡ last
Lead None (snapshot_at clock ∷ notices) last = Lead (Some clock) notices last
Lead (Some reached) (snapshot_at clock ∷ notices) last = ⊥
Lead None (updates_between from to ∷ notices) last = ⊥
Lead (Some reached) (updates_between from to ∷ notices) last = (from ≡ reached) × (from < to) × Lead (Some to) notices last
Lead place (pong ∷ notices) last = Lead place notices last
Lead place (end reason ∷ notices) last = Lead place notices last

-- where a client is on its session
abbrev pub IsAt : Connection → ℤ → Option ℕ → Type 0
IsAt Off reached place = Unit {0}
IsAt (Asking session) reached place = place ≡ None
IsAt (Open session) reached place = (clock : ℕ) × (reached ≡ pos clock) × (place ≡ Some clock)

-- where the notices to a session lead: nothing is in flight to one that is to be answered; to a live one they lead to its sent clock
abbrev pub IsSentTo : Phase → List Notice → Option ℕ → Type 0
IsSentTo new notices last = (notices ≡ []) × (last ≡ None)
IsSentTo (asked request reached plan) notices last = (notices ≡ []) × (last ≡ None)
IsSentTo (live sent plan) notices last = last ≡ Some sent
IsSentTo (ended reason told) notices last = Unit {0}
IsSentTo gone notices last = Unit {0}

-- no end of the session is among notices
abbrev pub HasNoEnd : List Notice → Type 0
HasNoEnd [] = Unit {0}
HasNoEnd (end reason ∷ notices) = ⊥
HasNoEnd (notice ∷ notices) = HasNoEnd notices

-- an end stands last
abbrev pub HasEndLast : List Notice → Type 0
HasEndLast [] = Unit {0}
HasEndLast (end reason ∷ notices) = notices ≡ []
HasEndLast (notice ∷ notices) = HasEndLast notices

-- an end is there only if the session was told so or has left
abbrev pub IsEndedBy : Phase → List Notice → Type 0
IsEndedBy (ended reason true) notices = HasEndLast notices
IsEndedBy gone notices = HasEndLast notices
IsEndedBy phase notices = HasNoEnd notices

-- what is in flight to a client on a session
pub record IsSent (client : Client) (phase : Phase) (notices : List Notice) : Type 0 where
  pub place : Option ℕ
  pub last : Option ℕ
  -- it leads the client from where it is
  pub at : IsAt client.connection client.reached place
  pub leads : Lead place notices last
  -- to where the session is
  pub sent : IsSentTo phase notices last
  -- and an end stands last
  pub ends : IsEndedBy phase notices

-- it is so of each client and its current session
abbrev pub AreSent : World → Type 0
AreSent world =
    (number k : ℕ) (client : Client) (session : Session) (channel : Channel)
    → slice_get world.clients number ≡ Some client → session_of client.connection ≡ Some k
    → slice_get world.room.sessions k ≡ Some session → slice_get world.channels k ≡ Some channel → IsSent client session.phase channel.to_client

-- a message is no ping
abbrev pub IsNoPing : ClientMessage → Type 0
IsNoPing (message.Connect request reached protocol versions) = Unit {0}
IsNoPing (message.Push client_clock diff presence) = Unit {0}
IsNoPing message.Ping = ⊥

-- it is so of each of a list
abbrev pub AreNoPings : List ClientMessage → Type 0
AreNoPings [] = Unit {0}
AreNoPings (said ∷ messages) = IsNoPing said × AreNoPings messages

-- clients of a world send no pings: none is in flight, and none waits
pub record AreWithoutPings (world : World) : Type 0 where
  pub none_sent : (k : ℕ) (channel : Channel) → slice_get world.channels k ≡ Some channel → AreNoPings channel.to_room
  pub none_waits : (k : ℕ) (session : Session) → slice_get world.room.sessions k ≡ Some session → session.pings ≡ 0

-- a client can be given a notice on its session: an answer while it asks, and what changed from the clock on that it has reached
abbrev pub IsDue : Client → ℕ → Notice → Type 0
IsDue client k (snapshot_at clock) = client.connection ≡ Asking k
IsDue client k (updates_between from to) = (client.connection ≡ Open k) × (client.reached ≡ pos from) × (from < to)
IsDue client k pong = Unit {0}
IsDue client k (end reason) = Unit {0}
