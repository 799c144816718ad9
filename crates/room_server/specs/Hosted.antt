-- What is told of workers and rooms once the rooms are closed.
use Rattle.std.specs.Prelude.{◌≡◌, ◌⊎◌, ℕ, ◌≤◌, List, All, count_by, length, slice_get, Bool, true, ◌&&◌, IfSome, Option, Some, None}
use mathlib.Core.List.{IsPrefix}
use Rattle.room_events.specs.Events.{events_of, number_of}
use Rattle.room_events.specs.Legal.{state_of}
use Rattle.room_events.specs.declared.room_event.RoomEvent.{RoomEvent}
use Rattle.room_link.specs.Exchange.{Exchange, Arrival}
use Rattle.room_link.specs.Worker.{Worker}
use Rattle.room_model.specs.Rooms.{is_full}
use Rattle.room_model.specs.declared.limits.TheConstants.{LAST_CLOCK}
use Rattle.room_run.specs.declared.close.Closed.{Closed}
use Rattle.room_link.specs.declared.passing.Outgoing.{Outgoing}
use Rattle.room_serve.specs.Reports.{IsKeptOut, IsStay, Serves}
use Rattle.room_serve.specs.Tallies.{AreTallied}
use Rattle.room_serve.specs.declared.account.Account.{Account}
use Rattle.room_serve.specs.declared.report.Report.{Report}
use Rattle.room_serve.specs.declared.tally.Tally.{Tally}
use Rattle.room_server.specs.Closing.{has_number, reports_of}
use Rattle.room_server.specs.Opened.{IsClosed, schemas_of}

-- a room took no further session, after a beginning of its pen
pub record WasFull (closed : Closed) : Type 0 where
  pub front : List RoomEvent
  pub begins : IsPrefix front closed.pen
  pub full : is_full (state_of (schemas_of closed) LAST_CLOCK front) ≡ true

-- the events of a session in the pen of a room
abbrev pub events_in : Closed → ℕ → List RoomEvent
events_in closed number = events_of number closed.pen

module _ (closed : List Closed) where
  -- how a link was in the room of a number, by its session and the room's pen
  pub record Visited (session : Option ℕ) (number : ℕ) (readonly : Bool) (account : Account) (arrivals : List Arrival) (put : List Outgoing) : Type 0 where
    pub room : Closed
    pub there : slice_get closed number ≡ Some room
    pub stay : ((session ≡ None) × IsKeptOut arrivals put account)
        ⊎ IsStay (WasFull room) (events_in room) session readonly account arrivals put

  -- a link was served in these rooms as a report says
  abbrev pub ServesClosed : Report → Exchange → Exchange → Type 0
  ServesClosed report = Serves (length closed) (Visited report.session) report

  -- a session has entered the room of a number
  pub record HasEntered (number : Option ℕ) (session : ℕ) : Type 0 where
    pub place : ℕ
    pub room : Closed
    pub named : number ≡ Some place
    pub there : slice_get closed place ≡ Some room
    pub entered : number_of (events_in room session) ≡ Some session

  -- what a report says once who is gone is handed in: its session was one of its room
  pub record IsSettled (report : Report) : Type 0 where
    pub nobody : report.gone ≡ None
    pub entered : IfSome report.session (HasEntered report.room)

-- a report is of a session of a room
abbrev pub is_of : ℕ → ℕ → Report → Bool
is_of room session report = has_number room report.room && has_number session report.session

module _ {K A : Type 0} (link_faults : K → ℕ) (link_told : K → Option Exchange)
    (worker_faults : A → ℕ) (worker_told : A → Option (Worker K)) where
  -- workers served in so many rooms, which are closed; and no two reports are of one session of a room
  pub record AreHosted (count : ℕ) (before after : List A) (tallies : List Tally) (closed : List Closed) : Type 0 where
    pub count_is : length closed ≡ count
    pub closed_are : All IsClosed closed
    pub tallied : AreTallied link_faults link_told (ServesClosed closed) (IsSettled closed) worker_faults worker_told before after tallies
    pub apart : (room session : ℕ) → count_by (is_of room session) (reports_of tallies) ≤ 1
