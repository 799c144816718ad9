-- Why a client doesn't take a message.
use Rattle.std.specs.Prelude.{ℕ, ℤ, pos, negsuc, int_lt, ◌==◌, List, [], ◌∷◌, drop, fold, decimal, if◌then◌else◌, Option, Some, None}
use Rattle.std.specs.Option.{option_map_or, option_or}
use Rattle.std.specs.Str.{bytes_eq}
use Rattle.sync_msgs.specs.declared.data_event.DataEvent.{DataEvent}
use Rattle.sync_msgs.specs.declared.data_event.DataEvent.TheVariants.{Patch, PushResult}
use Rattle.sync_msgs.specs.declared.server_message.ServerMessage.{ServerMessage}
use Rattle.sync_msgs.specs.declared.server_message.ServerMessage.TheVariants as message
use Rattle.room_model.specs.Replicas.{Client, Pending, is_open}
use Rattle.room_model.specs.declared.connection.Connection.{Connection}
use Rattle.room_model.specs.declared.connection.Connection.TheVariants.{Off, Asking, Open}
use Rattle.sync_client.specs.declared.fault.TakeFault.{TakeFault}
use Rattle.sync_client.specs.declared.fault.TakeFault.TheVariants.{NotOpen, WrongRequest, NoPending, WrongPending, ClockBack}

-- the number under which the first pending item was sent, if there is one and it was
abbrev pub first_number : List Pending → Option ℕ
first_number [] = None
first_number (item ∷ items) = item.sent_as

-- a clock lies below the reached one
abbrev pub clock_fault : ℤ → ℤ → Option TakeFault
clock_fault reached clock = if int_lt clock reached then Some (ClockBack reached clock) else None

-- a result is that of another push than the one that is expected
abbrev pub number_fault : ℤ → ℕ → Option TakeFault
number_fault (pos n) expected = if n == expected then None else Some (WrongPending (pos expected) (pos n))
number_fault (negsuc n) expected = Some (WrongPending (pos expected) (negsuc n))

-- what is wrong with an event, if the first pending item was sent under this number, or wasn't, and this clock is reached
abbrev pub event_fault : Option ℕ → ℤ → DataEvent → Option TakeFault
event_fault expected reached (Patch diff clock) = clock_fault reached clock
event_fault expected reached (PushResult number clock action) =
    option_or (option_map_or (number_fault number) expected (Some (NoPending number))) (clock_fault reached clock)

-- the clock that is reached after an event
abbrev pub clock_of : DataEvent → ℤ
clock_of (Patch diff clock) = clock
clock_of (PushResult number clock action) = clock

-- the clock that is reached after events
abbrev pub clock_after : ℤ → List DataEvent → ℤ
clock_after reached events = fold (λ clock event. clock_of event) reached events

-- what is pending after an event: a result ends the first item
abbrev pub pending_after : List Pending → DataEvent → List Pending
pending_after items (Patch diff clock) = items
pending_after items (PushResult number clock action) = drop 1 items

-- what is wrong with the first event at fault
abbrev pub events_fault : List Pending → ℤ → List DataEvent → Option TakeFault
events_fault items reached [] = None
events_fault items reached (event ∷ events) = option_or (event_fault (first_number items) reached event) (events_fault (pending_after items event) (clock_of event) events)

-- what is wrong with an answer to a request: none was asked, or another one
abbrev pub answer_fault : Connection → List ℕ → Option TakeFault
answer_fault Off request = Some NotOpen
answer_fault (Asking asked) request = if bytes_eq request (decimal asked) then None else Some WrongRequest
answer_fault (Open session) request = Some NotOpen

-- what is wrong with what comes over a connection
abbrev pub open_fault : Connection → Option TakeFault → Option TakeFault
open_fault connection fault = if is_open connection then fault else Some NotOpen

-- why a client doesn't take a message, if it doesn't
abbrev pub take_fault : Client → ServerMessage → Option TakeFault
take_fault client (message.Connect hydration request protocol schema diff clock readonly) = answer_fault client.connection request
take_fault client (message.Data events) = open_fault client.connection (events_fault client.pending client.reached events)
take_fault client message.Pong = open_fault client.connection None
