-- What moves the clock of a room: which entries a call appends.
use Rattle.std.specs.Prelude.{◌≡◌, ℕ, List, [], ◌∷◌, slice_get, ◌==◌, Bool, true, false, not, ◌&&◌, Option, Some, None, option_map, is_some}
use Rattle.std.specs.List.{list_all}
use Rattle.std.specs.Option.{option_map_or}
use Rattle.rooms_val.specs.Maps.{value_at}
use Rattle.field_ops.specs.ViewRecordOps.{change_of}
use Rattle.room_model.specs.Schemas.{Schemas, Plan, presence_id}
use Rattle.room_model.specs.Histories.{History, records_of}
use Rattle.room_model.specs.Accepting.{Push, pushed_diff, entry_of}
use Rattle.room_model.specs.Rooms.{live, Session, Room, removal, is_present}
use Rattle.room_model.specs.Reachable.{is_over}
use Rattle.room_model.specs.declared.handled.Handled.{Handled}
use Rattle.room_model.specs.declared.handled.Handled.TheVariants.{Taken, Entered, Pong, Ended}
use Rattle.room_model.specs.declared.history.Entry.{Entry}
use Rattle.sync_msgs.specs.declared.client_message.ClientMessage.{ClientMessage}
use Rattle.sync_msgs.specs.declared.client_message.ClientMessage.TheVariants as message

-- the push that a message is, if it is one
abbrev pub push_of : ClientMessage → Option Push
push_of (message.Connect request reached protocol versions) = None
push_of (message.Push client_clock diff presence) =
    Some (record { client_clock = client_clock; diff = pushed_diff diff; presence = option_map change_of presence })
push_of message.Ping = None

-- a history with the removals of some sessions' presence on top, that of the first session below the others
abbrev pub with_removals : List ℕ → History → History
with_removals [] history = history
with_removals (number ∷ numbers) history = with_removals numbers (removal number ∷ history)

-- each of these sessions had its presence in the room when that was removed
abbrev pub WerePresent : List ℕ → History → Type 0
WerePresent [] history = Unit {0}
WerePresent (number ∷ numbers) history =
    (is_some (value_at (records_of history) (presence_id number)) ≡ true) × WerePresent numbers (removal number ∷ history)

-- no number stands twice
abbrev pub is_once : List ℕ → Bool
is_once [] = true
is_once (number ∷ numbers) = list_all (λ other. not (other == number)) numbers && is_once numbers

-- a session was in a room and not ended
abbrev pub was_open : Room → ℕ → Bool
was_open room number = option_map_or (λ session. not (is_over session.phase)) (slice_get room.sessions number) false

-- a session is ended in a room, or has left it
abbrev pub is_closed : Room → ℕ → Bool
is_closed room number = option_map_or (λ session. is_over session.phase) (slice_get room.sessions number) false

-- from one room to another these sessions with a presence were closed, and nothing but that happened to the history
pub record IsClosing (before after : Room) (closed : List ℕ) : Type 0 where
  -- the removals of their presence were appended, and nothing else
  pub appended : after.history ≡ with_removals closed before.history
  -- each had its presence then
  pub present : WerePresent closed before.history
  -- none was closed twice
  pub once : is_once closed ≡ true
  -- each was open before and is closed afterwards
  pub ends : list_all (λ number. was_open before number && is_closed after number) closed ≡ true
  -- whoever was open before and is closed afterwards, also of those that had no presence then, has none afterwards
  pub gone : (number : ℕ) → was_open before number ≡ true → is_closed after number ≡ true → is_present number after ≡ false

module _ (schemas : Schemas) where
  -- an entry is that of a message, which is a push of a live session
  pub record IsPushed (room : Room) (number : ℕ) (said : ClientMessage) (entry : Entry) : Type 0 where
    pub session : Session
    pub sent : ℕ
    pub plan : Plan
    pub push : Push
    -- the session is there and live
    pub there : slice_get room.sessions number ≡ Some session
    pub is_live : session.phase ≡ live sent plan
    -- its message is the push, of which the room makes the entry
    pub says : push_of said ≡ Some push
    pub makes : entry ≡ entry_of schemas (record { session = number; readonly = session.readonly; plan = plan }) (records_of room.history) push

  -- what a message of a session appends, by the reply: the entry of a push, if it is taken; and removals on top
  abbrev pub Appends : Room → ℕ → ClientMessage → Handled → Room → List ℕ → Type 0
  Appends room number said Taken after closed =
      (entry : Entry) × IsPushed room number said entry × IsClosing (record room { history = entry ∷ room.history }) after closed
  Appends room number said Entered after closed = IsClosing room after closed
  Appends room number said Pong after closed = IsClosing room after closed
  Appends room number said (Ended reason) after closed = IsClosing room after closed

-- how many pushes a reply says were taken
abbrev pub count_taken : Handled → ℕ
count_taken Taken = 1
count_taken other = 0
