-- Which lists of events are legal, and what a room is after one. A list has its oldest event first.
use Rattle.std.specs.Prelude.{◌≡◌, ℕ, List, [], ◌∷◌, length, fold, true, false, Some, is_some, option_map, unwrap_or}
use Rattle.std.specs.Option.{option_map_or}
use Rattle.room_model.specs.Schemas.{Schemas}
use Rattle.room_model.specs.Rooms.{Room, new_room, is_full, after_enter, session_at, after_message, after_leave, next_for, after_drain}
use Rattle.room_model.specs.Reachable.{IsRising}
use Rattle.room_events.specs.declared.room_event.RoomEvent.{RoomEvent}
use Rattle.room_events.specs.declared.room_event.RoomEvent.TheVariants.{Enter, Message, Drain, Leave}

module _ (schemas : Schemas) where
  -- an event can happen in a room. A session enters where the room isn't full, with the number of those who entered before it.
  -- A message has the reply that the room gives it, and its diff rises, as each diff does. A drain has what the room gives the
  -- session, or nothing where it gives nothing. A session of the room can leave.
  abbrev pub CanHappen : Room → RoomEvent → Type 0
  CanHappen room (Enter number readonly) = (is_full room ≡ false) × (number ≡ length room.sessions)
  CanHappen room (Message number said reply) =
      IsRising said × (option_map (λ replied. replied.reply) (after_message schemas room number said) ≡ Some reply)
  CanHappen room (Drain number out) =
      (is_some (session_at number room) ≡ true) × (option_map (λ given. given.out) (next_for schemas room number) ≡ out)
  CanHappen room (Leave number) = is_some (session_at number room) ≡ true

  -- what the call of an event makes of a room
  abbrev pub room_after : Room → RoomEvent → Room
  room_after room (Enter number readonly) = after_enter readonly room
  room_after room (Message number said reply) = option_map_or (λ replied. replied.room) (after_message schemas room number said) room
  room_after room (Drain number out) = option_map_or (λ given. after_drain room number given) (next_for schemas room number) room
  room_after room (Leave number) = unwrap_or (after_leave room number) room

  -- an event happens in a room, and makes another of it
  abbrev pub Happens : Room → RoomEvent → Room → Type 0
  Happens room event after = CanHappen room event × (room_after room event ≡ after)

  -- each event of a list happens, the first in a room, and each other in the room that the one before it made
  abbrev pub AllHappen : Room → List RoomEvent → Type 0
  AllHappen room [] = Unit {0}
  AllHappen room (event ∷ events) = (after : Room) × Happens room event after × AllHappen after events

  -- a list is legal if its events happen in a new room, one that refuses pushes from a last clock on
  unfoldable pub Legal : ℕ → List RoomEvent → Type 0
  Legal last events = AllHappen (new_room last) events

  -- that room after the events of a legal list
  unfoldable pub state_of : ℕ → List RoomEvent → Room
  state_of last events = fold room_after (new_room last) events
