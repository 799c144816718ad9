-- Up to which clock a session was told, by what it was given; and its pings and pongs.
use Rattle.std.specs.Prelude.{◌≡◌, ℕ, suc, ◌+◌, ◌<◌, ◌⊎◌, ℤ, pos, List, [], ◌∷◌, fold, Bool, true, false, Option, Some, None}
use Rattle.room_model.specs.declared.limits.TheConstants.{MOST_TOLD}
use Rattle.room_events.specs.declared.room_event.RoomEvent.{RoomEvent}
use Rattle.room_events.specs.declared.room_event.RoomEvent.TheVariants as call
use Rattle.sync_msgs.specs.declared.client_message.ClientMessage.TheVariants as message
use Rattle.sync_msgs.specs.declared.data_event.DataEvent.{DataEvent}
use Rattle.sync_msgs.specs.declared.data_event.DataEvent.TheVariants.{Patch, PushResult}
use Rattle.sync_msgs.specs.declared.out.Out.{Out}
use Rattle.sync_msgs.specs.declared.out.Out.TheVariants.{Message, End}
use Rattle.sync_msgs.specs.declared.server_message.ServerMessage.TheVariants as reply

-- the clock of an event that a session is told
abbrev pub clock_of : DataEvent → ℤ
clock_of (Patch diff clock) = clock
clock_of (PushResult client_clock clock action) = clock

-- up to which clock a session was told once it is given something: that of a snapshot, or of the last event of some updates
abbrev pub told_by : Option ℤ → Option Out → Option ℤ
told_by told (Some (Message (reply.Connect hydration request protocol versions diff clock readonly))) = Some clock
told_by told (Some (Message (reply.Data events))) = fold (λ before event. Some (clock_of event)) told events
told_by told (Some (Message reply.Pong)) = told
told_by told (Some (End reason)) = told
told_by told None = told

-- the same once one of its events happened
abbrev pub told_after : Option ℤ → RoomEvent → Option ℤ
told_after told (call.Enter number readonly) = told
told_after told (call.Message number said replied) = told
told_after told (call.Drain number out) = told_by told out
told_after told (call.Leave number) = told

-- up to which clock a session was told by its events, if it was told anything
abbrev pub told_up_to : List RoomEvent → Option ℤ
told_up_to events = fold told_after None events

-- the clocks of events follow a clock, each by one
abbrev pub EachNext : ℕ → List DataEvent → Type 0
EachNext clock [] = Unit {0}
EachNext clock (event ∷ events) = (clock_of event ≡ pos (suc clock)) × EachNext (suc clock) events

-- events are all at one clock
abbrev pub AllAt : ℕ → List DataEvent → Type 0
AllAt clock [] = Unit {0}
AllAt clock (event ∷ events) = (clock_of event ≡ pos clock) × AllAt clock events

-- the events of updates go on from a clock: by one each, or, in a catch-up, all are at one clock that is more than 32 later
abbrev pub GoOnFrom : ℕ → List DataEvent → Type 0
GoOnFrom clock events = EachNext clock events ⊎ ((to : ℕ) × (clock + MOST_TOLD < to) × AllAt to events)

-- whether a session sends a ping by an event
abbrev pub is_ping : RoomEvent → Bool
is_ping (call.Enter number readonly) = false
is_ping (call.Message number (message.Connect request reached protocol versions) replied) = false
is_ping (call.Message number (message.Push client_clock diff presence) replied) = false
is_ping (call.Message number message.Ping replied) = true
is_ping (call.Drain number out) = false
is_ping (call.Leave number) = false

-- whether what a session is given is a pong
abbrev pub is_pong_given : Option Out → Bool
is_pong_given (Some (Message (reply.Connect hydration request protocol versions diff clock readonly))) = false
is_pong_given (Some (Message (reply.Data events))) = false
is_pong_given (Some (Message reply.Pong)) = true
is_pong_given (Some (End reason)) = false
is_pong_given None = false

-- whether a session is given a pong by an event
abbrev pub is_pong : RoomEvent → Bool
is_pong (call.Enter number readonly) = false
is_pong (call.Message number said replied) = false
is_pong (call.Drain number out) = is_pong_given out
is_pong (call.Leave number) = false
