-- Which sessions of a room a table of sessions stands for.
use Rattle.std.specs.Prelude.{◌≡◌, ℕ, ◌≤◌, ℤ, pos, nat_abs, int_lt, nat_le, nat_lt, ◌+◌, ◌&&◌, List, length, slice_get, Bool, true, false, if◌then◌else◌, Option, Some, None, ◌<◌, vec_len, vec_capacity}
use Rattle.slab.specs.Slab.{get, slab_len, with_value}
use Rattle.room_model.specs.Histories.{History, above}
use Rattle.room_model.specs.Rooms as model
use Rattle.room_model.specs.Reachable.{is_over}
use Rattle.room_accept.specs.Plans.{plan_of}
use Rattle.room_model.specs.declared.limits.TheConstants.{MOST_TOLD}
use Rattle.room_model.specs.declared.history.Author.{Author}
use Rattle.room_model.specs.declared.history.Entry.{Entry}
use Rattle.room_history.specs.declared.removal.Removal.{Removal}
use Rattle.room_messages.specs.Results.{own_clocks}
use Rattle.sync_msgs.specs.declared.end_reason.EndReason.{EndReason}
use Rattle.sync_room.specs.declared.session.Phase.{Phase}
use Rattle.sync_room.specs.declared.session.Phase.TheVariants.{New, Asked, Live, Ended}
use Rattle.sync_room.specs.declared.session.Session.{Session}
use Rattle.sync_room.specs.declared.session.SessionId.{SessionId}
use Rattle.sync_room.specs.declared.sessions.Sessions.{Sessions}

-- how far a session is
abbrev pub phase_of : Phase → model.Phase
phase_of New = model.new
phase_of (Asked request reached plan) = model.asked request reached (plan_of plan)
phase_of (Live sent plan) = model.live (nat_abs sent) (plan_of plan)
phase_of (Ended reason told) = model.ended reason told

-- the session of a room that a kept one is
abbrev pub session_of : Session → model.Session
session_of s = record { readonly = s.readonly; pings = s.pings; phase = phase_of s.phase }

-- a session under a key is the one of an id
abbrev pub IsIn : SessionId → Sessions → Type 0
IsIn id table = (s : Session) × (get table.present id.key ≡ Some s) × (s.number ≡ id.number)

-- a session of a number is in the table
abbrev pub HasPlace : ℕ → Sessions → Type 0
HasPlace number table = (key : ℕ) × (s : Session) × (get table.present key ≡ Some s) × (s.number ≡ number)

-- what is kept removes the presence of a session
abbrev pub IsRemovalOf : ℕ → Removal → Type 0
IsRemovalOf number removal = removal.session ≡ number

-- an entry is that of a push of a session, by its client clock
pub record IsByPush (number : ℕ) (client_clock : ℤ) (entry : Entry) : Type 0 where
  pub author : Author
  pub by : entry.author ≡ Some author
  pub session : author.session ≡ number
  pub clock : author.client_clock ≡ client_clock

-- the clock up to which a live session was sent everything is one that the history has reached, and these are the client clocks of
-- its pushes above that
pub record IsSent (history : History) (number : ℕ) (sent : ℤ) (pushed : List ℤ) : Type 0 where
  pub natural : sent ≡ pos (nat_abs sent)
  pub within : nat_abs sent ≤ length history
  pub pushes : pushed ≡ own_clocks number (above (nat_abs sent) history)

abbrev pub IsSentIn : History → ℕ → List ℤ → Phase → Type 0
IsSentIn history number pushed New = Unit {0}
IsSentIn history number pushed (Asked request reached plan) = Unit {0}
IsSentIn history number pushed (Live sent plan) = IsSent history number sent pushed
IsSentIn history number pushed (Ended reason told) = Unit {0}

-- what is kept of a session beside how far it is
pub record IsKept (history : History) (s : Session) : Type 0 where
  pub sent : IsSentIn history s.number s.pushed.items s.phase
  -- until it is ended there is what removes its presence
  pub unended : is_over (phase_of s.phase) ≡ false → (removal : Removal) × (s.removal ≡ Some removal) × IsRemovalOf s.number removal
  pub ended : is_over (phase_of s.phase) ≡ true → s.removal ≡ None

-- the table has the sessions that are in a room
pub record Holds (state : model.Room) (table : Sessions) : Type 0 where
  -- as many have entered
  pub entered : length state.sessions ≡ table.entered
  -- each in the table is the room's of its number, and no number has two keys
  pub here : (key : ℕ) (s : Session) → get table.present key ≡ Some s → slice_get state.sessions s.number ≡ Some (session_of s)
  pub kept : (key : ℕ) (s : Session) → get table.present key ≡ Some s → IsKept state.history s
  pub once : (key other : ℕ) (s t : Session) → get table.present key ≡ Some s → get table.present other ≡ Some t → s.number ≡ t.number → key ≡ other
  -- each of the room's that hasn't left is in the table, and they are as many
  pub there : (number : ℕ) (session : model.Session) → slice_get state.sessions number ≡ Some session → model.has_left session.phase ≡ false → HasPlace number table
  pub count : slab_len table.present ≡ model.count_here state

-- a table with this session under a key
abbrev pub with_at : ℕ → Session → Sessions → Sessions
with_at key session table = record table { present = with_value table.present key session }

-- a session was answered, and isn't ended
abbrev pub is_live : Phase → Bool
is_live New = false
is_live (Asked request reached plan) = false
is_live (Live sent plan) = true
is_live (Ended reason told) = false

-- a live session's sent clock is below a clock
abbrev pub is_behind : ℤ → Phase → Bool
is_behind clock New = false
is_behind clock (Asked request reached plan) = false
is_behind clock (Live sent plan) = int_lt sent clock
is_behind clock (Ended reason told) = false

-- a key has the session with the least number of those whose sent clocks are below a clock
pub record IsFirstBehind (clock : ℤ) (table : Sessions) (key : ℕ) : Type 0 where
  pub session : Session
  pub here : get table.present key ≡ Some session
  pub behind : is_behind clock session.phase ≡ true
  pub least : (other : ℕ) (s : Session) → get table.present other ≡ Some s → is_behind clock s.phase ≡ true → session.number ≤ s.number

-- of what was found before, if anything, and a session with its key the one with the lesser number
abbrev pub lesser : Option (ℕ × ℕ) → ℕ → ℕ → Option (ℕ × ℕ)
lesser None key number = Some (key, number)
lesser (Some found) key number = if nat_le found.1 number then Some found else Some (key, number)

-- a session has entered, and no more
abbrev pub is_new : Phase → Bool
is_new New = true
is_new (Asked request reached plan) = false
is_new (Live sent plan) = false
is_new (Ended reason told) = false

-- a phase once its session was sent everything up to a clock
abbrev pub reached : ℤ → Phase → Phase
reached clock New = New
reached clock (Asked request said plan) = Live clock plan
reached clock (Live sent plan) = Live clock plan
reached clock (Ended reason told) = Ended reason told

-- a session is another but for the client clocks of its pushes, which are these
pub record IsWithPushed (pushed : List ℤ) (s t : Session) : Type 0 where
  pub same : t ≡ record s { pushed = t.pushed }
  pub clocks : t.pushed.items ≡ pushed

-- there is room for the client clock of one more push of the session under a key
abbrev pub HasRoomToNote : ℕ → Sessions → Type 0
HasRoomToNote key table = (s : Session) → get table.present key ≡ Some s → vec_len s.pushed < vec_capacity s.pushed

-- a session that is ended for a reason, and not told so
abbrev pub ended_by : EndReason → Session → Session
ended_by reason s = record s { phase = Ended reason false; removal = None }

-- below this a live session's sent clock shows that it is too slow, in a room with this start and this clock
abbrev pub IsLeastSent : ℤ → ℤ → ℤ → Type 0
IsLeastSent start clock least =
    (n s k : ℕ) → start ≡ pos s → clock ≡ pos k → (nat_lt n s && nat_lt (n + MOST_TOLD) k) ≡ int_lt (pos n) least
