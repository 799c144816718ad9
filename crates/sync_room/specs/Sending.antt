-- What a session is sent next.
use Rattle.std.specs.Prelude.{◌≡◌, ℕ, length, nat_lt, [], Bool, true, false, if◌then◌else◌, Option, Some, None}
use Rattle.slab.specs.Slab.{get}
use Rattle.room_model.specs.Messages.{known_clock, snapshot, updates}
use Rattle.room_model.specs.Rooms as model
use Rattle.room_model.specs.Schemas.{Schemas, Member, Plan}
use Rattle.sync_msgs.specs.declared.out.Out.{Out}
use Rattle.sync_msgs.specs.declared.out.Out.TheVariants as out
use Rattle.sync_msgs.specs.declared.server_message.ServerMessage.{ServerMessage}
use Rattle.sync_room.specs.Sessions.{with_at, reached, IsWithPushed}
use Rattle.sync_room.specs.declared.drain.Next.{Next}
use Rattle.sync_room.specs.declared.drain.Next.TheVariants.{End, Pong, Message}
use Rattle.sync_room.specs.declared.room.Room.{Room}
use Rattle.sync_room.specs.declared.session.Phase.{Phase}
use Rattle.sync_room.specs.declared.session.Phase.TheVariants.{New, Asked, Live, Ended}
use Rattle.sync_room.specs.declared.session.Session.{Session}

-- what a session is given next: if it was ended, why; else a pong, if a ping waits and it hasn't asked; else a message, if there is one
abbrev pub IsNextIn : Phase → ℕ → Next → Type 0
IsNextIn (Ended reason told) pings next = next ≡ End reason told
IsNextIn (Asked request said plan) pings next = next ≡ Message
IsNextIn New pings next = next ≡ (if nat_lt 0 pings then Pong else Message)
IsNextIn (Live sent plan) pings next = next ≡ (if nat_lt 0 pings then Pong else Message)

abbrev pub IsNext : Session → Next → Type 0
IsNext s next = IsNextIn s.phase s.pings next

-- the clock since which the next message to a session tells what changed, if it does
abbrev pub told_since : model.Room → model.Phase → Option ℕ
told_since room model.new = None
told_since room (model.asked request reached plan) = known_clock reached (model.start room) (length room.history)
told_since room (model.live sent plan) = Some sent
told_since room (model.ended reason told) = None
told_since room model.gone = None

-- a session as messages know it
abbrev pub member_in : ℕ → model.Session → Plan → Member
member_in number session plan = record { session = number; readonly = session.readonly; plan = plan }

-- the answer to a session's connect, or what happened since the last message to it, if anything
abbrev pub message_in : Schemas → model.Room → ℕ → model.Session → model.Phase → Option ServerMessage
message_in schemas room number session model.new = None
message_in schemas room number session (model.asked request reached plan) =
    Some (snapshot schemas (member_in number session plan) request reached room.first room.history)
message_in schemas room number session (model.live sent plan) =
    if nat_lt sent (length room.history) then Some (updates schemas (member_in number session plan) sent room.history) else None
message_in schemas room number session (model.ended reason told) = None
message_in schemas room number session model.gone = None

-- nothing of a room changes but the session under a key, which becomes another
pub record IsChanged (key : ℕ) (s : Session) (before after : Room) : Type 0 where
  pub last : after.last ≡ before.last
  pub history : after.history ≡ before.history
  pub sessions : after.sessions ≡ with_at key s before.sessions

-- the session under a key is given a message, if there is one, and was sent everything up to the room's clock then
abbrev pub Sends : Option ServerMessage → ℕ → Session → Option Out → Room → Room → Type 0
Sends None key s given before after = (given ≡ None) × (after ≡ before)
Sends (Some said) key s given before after =
    (given ≡ Some (out.Message said))
    × ((t : Session) × IsWithPushed [] (record s { phase = reached before.history.kept.clock s.phase }) t × IsChanged key t before after)
