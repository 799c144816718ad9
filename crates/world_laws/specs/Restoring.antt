-- When a client gets back what it showed at a mark.
use Rattle.std.specs.Prelude.{◌≡◌, ◌≢◌, ℕ, List, slice_get, Bool, Option, Some, option_and_then, Ok}
use Rattle.rooms_val.specs.Data.{Pairs, map, members_of, IsSound}
use Rattle.doc_model.specs.Restoring.{Restores}
use Rattle.room_model.specs.Schemas.{WorldSchemas}
use Rattle.room_model.specs.Rooms.{Notice, end}
use Rattle.room_model.specs.Replicas.{Client, session_of}
use Rattle.room_model.specs.Worlds.{World, Stepped, shown_in, after_event}
use Rattle.room_model.specs.declared.event.Event.{Event}
use Rattle.room_model.specs.declared.event.Event.TheVariants as event
use Rattle.sync_msgs.specs.declared.end_reason.EndReason.{EndReason}
use Rattle.world_laws.specs.Reachable.{ReachableWorld}

-- what comes next to a client, if anything
abbrev pub next_to : World → ℕ → Option Notice
next_to world number =
    option_and_then (λ client. option_and_then (λ k. option_and_then (λ channel. slice_get channel.to_client 0) (slice_get world.channels k)) (session_of client.connection))
    (slice_get world.clients number)

-- an event takes nothing back at a client, gives it nothing but perhaps the end of its session, and makes no mark of a name there
abbrev pub Spares : World → ℕ → List ℕ → Event → Type 0
Spares world number name (event.Mark client other) = client ≡ number → name ≢ other
Spares world number name (event.Undo client) = client ≢ number
Spares world number name (event.Redo client) = client ≢ number
Spares world number name (event.Bail client other) = client ≢ number
Spares world number name (event.Deliver client) = client ≡ number → (reason : EndReason) × (next_to world number ≡ Some (end reason))
Spares world number name other = Unit {0}

module _ {F : Type 0} (schemas : WorldSchemas F) where
  -- what a client shows is sound, as each map is that code keeps
  abbrev pub ShowsSound : World → ℕ → Type 0
  ShowsSound world number = (client : Client) → slice_get world.clients number ≡ Some client → IsSound (map (members_of (shown_in schemas world client)))

  -- the last mark of a name brings what a client shows back to a document
  pub record BringsBack (world : World) (number : ℕ) (name : List ℕ) (before : Pairs) : Type 0 where
    pub client : Client
    pub made : slice_get world.clients number ≡ Some client
    pub restores : Restores name client.marks (shown_in schemas world client) before

-- the worlds that follow when a client that shows a document makes a mark, as long as each event spares it
pub data IsSinceMark {F : Type 0} (schemas : WorldSchemas F) (number : ℕ) (name : List ℕ) (before : Pairs) : World → Type 0 where
  marked : (trace : Bool) (world : World) (client : Client) (made : Stepped) → ReachableWorld schemas world → slice_get world.clients number ≡ Some client
      → shown_in schemas world client ≡ before → after_event schemas trace world (event.Mark number name) ≡ Ok made
      → ShowsSound schemas made.world number → IsSinceMark schemas number name before made.world
  went_on : (trace : Bool) (world : World) (e : Event) (made : Stepped) → IsSinceMark schemas number name before world → Spares world number name e
      → after_event schemas trace world e ≡ Ok made → ShowsSound schemas made.world number → IsSinceMark schemas number name before made.world
