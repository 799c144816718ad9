-- Which worlds events make.
use Rattle.std.specs.Prelude.{◌≡◌, [], Bool, Ok}
use Rattle.room_model.specs.Schemas.{WorldSchemas}
use Rattle.room_model.specs.Rooms.{Room}
use Rattle.room_model.specs.Reachable.{Reachable}
use Rattle.room_model.specs.Worlds.{World, world_over, Stepped, after_event}
use Rattle.room_model.specs.declared.event.Event.{Event}

-- the worlds that can be reached: that over a room that nobody entered, and what an event makes of one
pub data ReachableWorld {F : Type 0} (schemas : WorldSchemas F) : World → Type 0 where
  begun : (room : Room) → Reachable schemas.room room → room.sessions ≡ [] → ReachableWorld schemas (world_over room)
  stepped : (trace : Bool) (world : World) (event : Event) (made : Stepped)
      → ReachableWorld schemas world → after_event schemas trace world event ≡ Ok made → ReachableWorld schemas made.world
