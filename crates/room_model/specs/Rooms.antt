-- A room that one thread calls: its history and its sessions, and what each call makes of it.
use Rattle.std.specs.Prelude.{ℕ, zero, suc, ◌+◌, ◌-◌, nat_lt, nat_le, ℤ, int_lt, List, [], ◌∷◌, ◌++◌, length, count_by, position, Bool, true, false, not, ◌&&◌, ◌||◌, if◌then◌else◌, Option, Some, None, is_some, option_map, option_and_then, slice_get, slice_set, Result, Ok, Err}
use Rattle.std.specs.Option.{option_map_or}
use Rattle.rooms_val.specs.Maps.{value_at}
use Rattle.field_ops.specs.RecordOps.{remove, RecordOps}
use Rattle.field_ops.specs.ViewRecordOps.{change_of}
use Rattle.migrate_seq.specs.Versions.{Versions}
use Rattle.room_model.specs.Schemas.{Schemas, Plan, Member, presence_id}
use Rattle.room_model.specs.Histories.{History, records_of, start_of}
use Rattle.room_model.specs.Accepting.{Push, pushed_diff, is_taken, entry_of}
use Rattle.room_model.specs.Messages.{snapshot, updates}
use Rattle.room_model.specs.declared.handled.Handled.{Handled}
use Rattle.room_model.specs.declared.handled.Handled.TheVariants.{Taken, Entered, Pong, Ended}
use Rattle.room_model.specs.declared.history.Entry.{Entry}
use Rattle.room_model.specs.declared.limits.TheConstants.{MOST_PINGS, MOST_TOLD, MOST_SESSIONS, MOST_ENTERED, PROTOCOL}
use Rattle.sync_msgs.specs.declared.client_message.ClientMessage.{ClientMessage}
use Rattle.sync_msgs.specs.declared.client_message.ClientMessage.TheVariants as message
use Rattle.sync_msgs.specs.declared.end_reason.EndReason.{EndReason}
use Rattle.sync_msgs.specs.declared.end_reason.EndReason.TheVariants.{ClientTooOld, ServerTooOld, InvalidRecord, RoomFull, Slow}
use Rattle.sync_msgs.specs.declared.out.Out.{Out}
use Rattle.sync_msgs.specs.declared.out.Out.TheVariants.{Message, End}
use Rattle.sync_msgs.specs.declared.server_message.ServerMessage.TheVariants as reply

-- how far a session is
pub data Phase : Type 0 where
  -- it has entered
  new : Phase
  -- it asked under a text, received which clock it has reached, and has the plan from its schema
  asked : List ℕ → ℤ → Plan → Phase
  -- it was sent everything up to a clock, its sent clock, and has the plan
  live : ℕ → Plan → Phase
  -- it was ended for a reason, and perhaps told so
  ended : EndReason → Bool → Phase
  -- it has left
  gone : Phase

-- a session of a room
pub record Session : Type 0 where
  -- whether the room looks at no diff of its pushes
  pub readonly : Bool
  -- how many pings wait to be answered, at most 2^32 - 1
  pub pings : ℕ
  -- how far it is
  pub phase : Phase

-- a room
pub record Room : Type 0 where
  -- the start with which it began, 0 for a new room
  pub first : ℕ
  -- the clock from which on pushes are refused, from 1 to 2^53 - 65
  pub last : ℕ
  -- its entries, the newest first
  pub history : History
  -- its sessions by number, those that left too
  pub sessions : List Session

-- a room in which nothing happened, and which nobody entered
abbrev pub new_room : ℕ → Room
new_room last = record { first = 0; last = last; history = []; sessions = [] }

-- the clock up to which a room has forgotten removals
abbrev pub start : Room → ℕ
start room = start_of room.first room.history

-- a session has left
abbrev pub has_left : Phase → Bool
has_left gone = true
has_left phase = false

-- a session is ended
abbrev pub is_ended : Phase → Bool
is_ended (ended reason told) = true
is_ended phase = false

-- how many sessions are in a room, perhaps ended
abbrev pub count_here : Room → ℕ
count_here room = count_by (λ s. not (has_left s.phase)) room.sessions

-- a room takes no further session: too many are there, or too many have entered
abbrev pub is_full : Room → Bool
is_full room = nat_le MOST_SESSIONS (count_here room) || nat_le MOST_ENTERED (length room.sessions)

-- a session enters, with the next number
abbrev pub after_enter : Bool → Room → Room
after_enter readonly room =
    let session : Session = record { readonly = readonly; pings = 0; phase = new } in record room { sessions = room.sessions ++ session ∷ [] }

-- the same, unless the room is full
abbrev pub enter : Bool → Room → Option Room
enter readonly room = if is_full room then None else Some (after_enter readonly room)

-- the room with this session under a number
abbrev pub with_session : ℕ → Session → Room → Room
with_session number session room = record room { sessions = slice_set room.sessions number session }

-- a session that hasn't left
abbrev pub unless_left : Session → Option Session
unless_left session = if has_left session.phase then None else Some session

-- the session of a number, if it has entered and not left
abbrev pub session_at : ℕ → Room → Option Session
session_at number room = option_and_then unless_left (slice_get room.sessions number)

-- a live session is too slow: its sent clock lies below the start, and too many entries lie above it to be told one by one
abbrev pub is_slow : ℕ → ℕ → Phase → Bool
is_slow start clock (live sent plan) = nat_lt sent start && nat_lt (sent + MOST_TOLD) clock
is_slow start clock phase = false

-- the least number of a session that is too slow
abbrev pub first_slow : Room → Option ℕ
first_slow room = position (λ s. is_slow (start room) (length room.history) s.phase) room.sessions

-- whether a session's presence is in a room
abbrev pub is_present : ℕ → Room → Bool
is_present number room = is_some (value_at (records_of room.history) (presence_id number))

-- the entry that removes a session's presence
abbrev pub removal : ℕ → Entry
removal number = record { diff = (presence_id number, remove) ∷ []; author = None }

-- a session comes into its last phase, and its presence, if it is there, is removed by an entry
abbrev pub close : ℕ → Session → Phase → Room → Room
close number session phase room =
    with_session number (record session { phase = phase })
    (if is_present number room then record room { history = removal number ∷ room.history } else room)

-- the session of a number is ended as too slow
abbrev pub close_slow : Room → ℕ → Room
close_slow room number = option_map_or (λ session. close number session (ended Slow false) room) (slice_get room.sessions number) room

-- sessions that are too slow are ended, the least number first and asked again each time, as many as there may be
abbrev pub without_slow : ℕ → Room → Room
without_slow zero room = room
without_slow (suc n) room = option_map_or (λ number. without_slow n (close_slow room number)) (first_slow room) room

-- what follows an entry: each session that has become too slow is ended
abbrev pub end_slow : Room → Room
end_slow room = without_slow (length room.sessions) room

-- a room with a further entry
abbrev pub after_entry : Entry → Room → Room
after_entry entry room = end_slow (record room { history = entry ∷ room.history })

-- a session comes into its last phase, and what follows if that made an entry
abbrev pub after_close : ℕ → Session → Phase → Room → Room
after_close number session phase room = let after = close number session phase room in if is_present number room then end_slow after else after

-- what becomes of a message
pub record Replied : Type 0 where
  -- what the caller is told
  pub reply : Handled
  -- the room afterwards
  pub room : Room

-- a session is ended for a reason
abbrev pub refuse : ℕ → Session → EndReason → Room → Replied
refuse number session reason room = record { reply = Ended reason; room = after_close number session (ended reason false) room }

-- a ping waits to be answered, unless too many do
abbrev pub after_ping : ℕ → Session → Room → Replied
after_ping number session room = record {
  reply = Pong;
  room = with_session number (record session { pings = if nat_lt session.pings MOST_PINGS then suc session.pings else session.pings }) room;
}

-- why a protocol can't be spoken
abbrev pub protocol_fault : ℤ → Option EndReason
protocol_fault version = if int_lt version PROTOCOL then Some ClientTooOld else if int_lt PROTOCOL version then Some ServerTooOld else None

-- what a connect says
pub record Ask : Type 0 where
  -- the text under which it is to be answered
  pub request : List ℕ
  -- the clock that the client has reached
  pub reached : ℤ
  -- the protocol that it speaks, and its schema
  pub protocol : ℤ
  pub versions : Versions

-- a new session has asked, with the plan from its schema, or is refused
abbrev pub after_plan : ℕ → Session → Ask → Room → Result Plan EndReason → Replied
after_plan number session ask room (Ok plan) =
    record { reply = Entered; room = with_session number (record session { phase = asked ask.request ask.reached plan }) room }
after_plan number session ask room (Err reason) = refuse number session reason room

module _ (schemas : Schemas) where
  -- a new session asks to be connected; one that isn't new is ended
  abbrev pub after_connect : ℕ → Session → Ask → Room → Phase → Replied
  after_connect number session ask room new =
      option_map_or (λ reason. refuse number session reason room) (protocol_fault ask.protocol)
      (after_plan number session ask room (schemas.plan_for ask.versions))
  after_connect number session ask room phase = refuse number session InvalidRecord room

  -- a live session pushes; any other is ended
  abbrev pub after_push : ℕ → Session → Push → Room → Phase → Replied
  after_push number session push room (live sent plan) =
      let member : Member = record { session = number; readonly = session.readonly; plan = plan } in
      if nat_le room.last (length room.history) then refuse number session RoomFull room
      else if is_taken schemas member push then record { reply = Taken; room = after_entry (entry_of schemas member (records_of room.history) push) room }
      else refuse number session InvalidRecord room
  after_push number session push room phase = refuse number session InvalidRecord room

  -- a message of a session that isn't ended
  abbrev pub after_unended : ℕ → Session → Room → ClientMessage → Replied
  after_unended number session room (message.Connect request reached protocol versions) =
      after_connect number session (record { request = request; reached = reached; protocol = protocol; versions = versions }) room session.phase
  after_unended number session room (message.Push client_clock diff presence) =
      after_push number session (record { client_clock = client_clock; diff = pushed_diff diff; presence = option_map change_of presence }) room session.phase
  after_unended number session room message.Ping = after_ping number session room

  -- a message of a session: one that is ended is told the same reason again, and nothing changes
  abbrev pub after_message_in : ℕ → Session → Room → ClientMessage → Phase → Replied
  after_message_in number session room received (ended reason told) = record { reply = Ended reason; room = room }
  after_message_in number session room received phase = after_unended number session room received

  -- what a message of a session makes of the room; none where no such session is there
  abbrev pub after_message : Room → ℕ → ClientMessage → Option Replied
  after_message room number received = option_map (λ session. after_message_in number session room received session.phase) (session_at number room)

-- a session leaves; one that isn't ended takes its presence with it
abbrev pub leave : ℕ → Session → Room → Room
leave number session room =
    if is_ended session.phase then with_session number (record session { phase = gone }) room else after_close number session gone room

-- what a leave makes of the room; none where no such session is there
abbrev pub after_leave : Room → ℕ → Option Room
after_leave room number = option_map (λ session. leave number session room) (session_at number room)

-- what is in flight to a client, by clocks alone: what it tells is read from the room's history when it comes
pub data Notice : Type 0 where
  -- what the room has at a clock
  snapshot_at : ℕ → Notice
  -- what happened after one clock and up to another
  updates_between : ℕ → ℕ → Notice
  -- a sign of life
  pong : Notice
  -- the session is ended for a reason
  end : EndReason → Notice

-- what a session is given
pub record Given : Type 0 where
  -- what goes to it, and what that tells
  pub out : Out
  pub notice : Notice
  -- the session afterwards
  pub after : Session

-- a pong, where a ping waits; else what comes after it
abbrev pub pong_or : Session → Option Given → Option Given
pong_or session later =
    if nat_lt 0 session.pings
    then Some (record { out = Message reply.Pong; notice = pong; after = record session { pings = session.pings - 1 } })
    else later

module _ (schemas : Schemas) where
  -- what a session in some phase is given next, if anything
  abbrev pub next_in : Room → ℕ → Session → Phase → Option Given
  next_in room number session (ended reason false) =
      Some (record { out = End reason; notice = end reason; after = record session { phase = ended reason true } })
  next_in room number session (ended reason true) = None
  next_in room number session gone = None
  next_in room number session (asked request reached plan) =
      let clock = length room.history in
      let member : Member = record { session = number; readonly = session.readonly; plan = plan } in
      Some (record {
        out = Message (snapshot schemas member request reached room.first room.history);
        notice = snapshot_at clock;
        after = record session { phase = live clock plan };
      })
  next_in room number session new = pong_or session None
  next_in room number session (live sent plan) =
      let clock = length room.history in
      let member : Member = record { session = number; readonly = session.readonly; plan = plan } in
      pong_or session
      (if nat_lt sent clock
      then Some (record {
        out = Message (updates schemas member sent room.history);
        notice = updates_between sent clock;
        after = record session { phase = live clock plan };
      })
      else None)

  -- what a session is given next, if it is there and there is anything for it
  abbrev pub next_for : Room → ℕ → Option Given
  next_for room number = option_and_then (λ session. next_in room number session session.phase) (session_at number room)

-- the room after a session was given what was next for it
abbrev pub after_drain : Room → ℕ → Given → Room
after_drain room number given = with_session number given.after room
