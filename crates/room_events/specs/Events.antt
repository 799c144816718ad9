-- Events of a room: whose they are, and who enters and leaves by them.
use Rattle.std.specs.Prelude.{◌≡◌, ℕ, ◌-◌, ◌==◌, nat_le, List, [], ◌∷◌, filter, count_by, Bool, true, false, ◌||◌, Option, Some, None}
use Rattle.std.specs.List.{list_any}
use Rattle.room_events.specs.declared.room_event.RoomEvent.{RoomEvent}
use Rattle.room_events.specs.declared.room_event.RoomEvent.TheVariants.{Enter, Message, Drain, Leave}
use Rattle.room_model.specs.declared.limits.TheConstants.{MOST_SESSIONS, MOST_ENTERED}

-- the number of the session of an event
abbrev pub session_of : RoomEvent → ℕ
session_of (Enter number readonly) = number
session_of (Message number said reply) = number
session_of (Drain number out) = number
session_of (Leave number) = number

-- the events of one session among some, in their order
abbrev pub events_of : ℕ → List RoomEvent → List RoomEvent
events_of number events = filter (λ event. session_of event == number) events

-- the number of the session that some events are of, by the first of them
abbrev pub number_of : List RoomEvent → Option ℕ
number_of [] = None
number_of (event ∷ events) = Some (session_of event)

-- whether a session enters by an event
abbrev pub is_enter : RoomEvent → Bool
is_enter (Enter number readonly) = true
is_enter (Message number said reply) = false
is_enter (Drain number out) = false
is_enter (Leave number) = false

-- whether a session leaves by an event
abbrev pub is_leave : RoomEvent → Bool
is_leave (Enter number readonly) = false
is_leave (Message number said reply) = false
is_leave (Drain number out) = false
is_leave (Leave number) = true

-- whether a session leaves by one of some events
abbrev pub has_leave : List RoomEvent → Bool
has_leave events = list_any is_leave events

-- of the events of a session the first is its enter, and no other is
abbrev pub EntersFirst : List RoomEvent → Type 0
EntersFirst [] = Unit {0}
EntersFirst (event ∷ events) = (is_enter event ≡ true) × (list_any is_enter events ≡ false)

-- of the events of a session none but the last is its leave
abbrev pub LeavesLast : List RoomEvent → Type 0
LeavesLast [] = Unit {0}
LeavesLast (event ∷ events) = (is_leave event ≡ true → events ≡ []) × LeavesLast events

-- how many sessions enter by some events
abbrev pub count_entered : List RoomEvent → ℕ
count_entered events = count_by is_enter events

-- how many sessions enter by the events of a legal list and don't leave by them
abbrev pub count_in : List RoomEvent → ℕ
count_in events = count_entered events - count_by is_leave events

-- whether a room takes no further session after the events of a legal list: 64 are in it, or 2^53 - 1 have entered
abbrev pub is_full_after : List RoomEvent → Bool
is_full_after events = nat_le MOST_SESSIONS (count_in events) || nat_le MOST_ENTERED (count_entered events)
