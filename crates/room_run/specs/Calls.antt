-- What the calls of a running room do, by what a pass knows before and after.
use Rattle.std.specs.Prelude.{◌≡◌, ◌⊎◌, ℕ, List, [], ◌∷◌, ◌++◌, map, Bool, true, Option, Some, None}
use Rattle.room_model.specs.Rooms.{is_full}
use Rattle.room_model.specs.declared.handled.Handled.{Handled}
use Rattle.room_events.specs.Events.{events_of}
use Rattle.room_events.specs.Legal.{Legal, state_of}
use Rattle.room_events.specs.declared.room_event.RoomEvent.{RoomEvent}
use Rattle.room_events.specs.declared.room_event.RoomEvent.TheVariants.{Enter, Message, Drain}
use Rattle.room_run.specs.Openings.{Opening, schemas_of, last_of}
use Rattle.room_run.specs.declared.views.View.{View}
use Rattle.sync_msgs.specs.declared.client_message.ClientMessage.{ClientMessage}
use Rattle.sync_msgs.specs.declared.out.Out.{Out}

-- the events by which a session was given something
abbrev pub given : ℕ → List Out → List RoomEvent
given number outs = map (λ out. Drain number (Some out)) outs

-- the same until there was nothing more
abbrev pub given_all : ℕ → List Out → List RoomEvent
given_all number outs = given number outs ++ Drain number None ∷ []

-- the same of a call that makes no event if there is nothing
abbrev pub given_idle : ℕ → List Out → List RoomEvent
given_idle number [] = []
given_idle number (out ∷ outs) = given_all number (out ∷ outs)

-- the first events of a call that takes a message, perhaps none
abbrev pub IsBegun : ℕ → ClientMessage → List RoomEvent → Type 0
IsBegun number said events =
    (events ≡ []) ⊎ ((reply : Handled) × (outs : List Out) × (events ≡ Message number said reply ∷ given number outs))

-- in a room that was opened so
module _ (opening : Opening) where
  -- a pass of a session made some events in one turn. What it has seen is legal, and is what it had seen, then events of others, then
  -- these; and the session's events in it are those that the pass made, each once and in order
  pub record Acts (number : ℕ) (before after : View) (events : List RoomEvent) : Type 0 where
    pub between : List RoomEvent
    pub seen : after.seen ≡ (before.seen ++ between) ++ events
    pub mine : after.mine ≡ before.mine ++ events
    pub legal : Legal (schemas_of opening) (last_of opening) after.seen
    pub all : events_of number after.seen ≡ after.mine

  -- a session has entered. What its pass has seen is legal and ends with that, which is its one event
  pub record IsEntered (number : ℕ) (readonly : Bool) (view : View) : Type 0 where
    pub before : List RoomEvent
    pub seen : view.seen ≡ before ++ Enter number readonly ∷ []
    pub mine : view.mine ≡ Enter number readonly ∷ []
    pub legal : Legal (schemas_of opening) (last_of opening) view.seen
    pub all : events_of number view.seen ≡ view.mine

  -- what was seen is legal, and after it the room takes no further session; nothing was done
  pub record HasSeenFull (view : View) : Type 0 where
    pub legal : Legal (schemas_of opening) (last_of opening) view.seen
    pub full : is_full (state_of (schemas_of opening) (last_of opening) view.seen) ≡ true
    pub mine : view.mine ≡ []
