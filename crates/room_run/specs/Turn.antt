-- What a seat knows while it has the turn.
use Rattle.std.specs.Prelude.{◌≡◌, ◌⊎◌, ℕ, List, [], ◌∷◌, ◌++◌, true, false, Some, None}
use Rattle.room_events.specs.Events.{events_of, number_of, has_leave, session_of}
use Rattle.room_events.specs.declared.room_event.RoomEvent.{RoomEvent}
use Rattle.room_run.specs.Rule.{Fits}
use Rattle.room_run.specs.Steps.{Seated}
use Rattle.room_run.specs.declared.views.Story.{Story}
use Rattle.room_run.specs.declared.views.View.{View}

-- a seat has the turn, with the slot, out of which a story was taken, and it has seen the whole pen
abbrev pub HasTurn : Seated → Story → Type 0
HasTurn seat story =
    (seat.0.turn ≡ true) × (seat.1 ≡ (0, None) ∷ []) × (seat.0.seen ≡ story.pen) × (seat.0.opening ≡ Some story.opening)

-- a seat has taken the turn: it made the same events as before, and what it knew fits what it sees now
abbrev pub Turned : View → View → Type 0
Turned before after =
    (after.opening ≡ before.opening) × (after.mine ≡ before.mine) × (after.notes ≡ before.notes) × Fits after.seen before.seen before.mine

-- an event may be a seat's: it is of the session of the seat's events, or the seat has none and neither has the session
abbrev pub IsOwn : List RoomEvent → List RoomEvent → RoomEvent → Type 0
IsOwn pen mine event = (number_of mine ≡ Some (session_of event)) ⊎ ((mine ≡ []) × (events_of (session_of event) pen ≡ []))

-- a seat has made some events, which stand behind all that it had seen
abbrev pub Added : View → View → List RoomEvent → Type 0
Added before after events =
    (after.opening ≡ before.opening) × (after.seen ≡ before.seen ++ events) × (after.mine ≡ before.mine ++ events)

-- a view is a session's that hasn't left, and knows all events of the session
pub record IsOf (number : ℕ) (v : View) : Type 0 where
  pub session : number_of v.mine ≡ Some number
  pub stays : has_leave v.mine ≡ false
  pub all : events_of number v.seen ≡ v.mine

-- a session's seat has the turn
abbrev pub IsReady : ℕ → Seated → Story → Type 0
IsReady number seat story = HasTurn seat story × IsOf number seat.0
