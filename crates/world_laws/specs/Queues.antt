-- The messages in flight to clients, as the room gave them out.
use Rattle.std.specs.Prelude.{◌≡◌, ℕ, List, [], ◌∷◌, ◌++◌, length, map, drop, get_or, slice_get, slice_set, Some}
use Rattle.std.specs.Option.{option_map_or}
use Rattle.room_model.specs.Schemas.{WorldSchemas}
use Rattle.room_model.specs.Rooms.{next_for}
use Rattle.room_model.specs.Replicas.{Client, session_of}
use Rattle.room_model.specs.Worlds.{Channel, World}
use Rattle.room_model.specs.declared.event.Event.{Event}
use Rattle.room_model.specs.declared.event.Event.TheVariants as event
use Rattle.sync_msgs.specs.declared.out.Out.{Out}
use Rattle.world_laws.specs.Told.{told}

-- what was given out and is in flight, by the numbers of sessions, the oldest first
abbrev pub Queues : Type 0
Queues = List (List Out)

-- that of a session
abbrev pub queue_at : ℕ → Queues → List Out
queue_at k queues = get_or queues k []

-- queues without the first of a session's
abbrev pub without_first : ℕ → Queues → Queues
without_first k queues = slice_set queues k (drop 1 (queue_at k queues))

-- queues with one more at the end of a session's
abbrev pub with_out : ℕ → Out → Queues → Queues
with_out k out queues = slice_set queues k (queue_at k queues ++ out ∷ [])

module _ {F : Type 0} (schemas : WorldSchemas F) (world : World) where
  -- the queues after an event: a session that enters has an empty one, what the room gives out joins that of its session, and what a
  -- client is given leaves that of the client's session
  abbrev pub queues_after : Queues → Event → Queues
  queues_after queues (event.Connect number readonly) = queues ++ [] ∷ []
  queues_after queues (event.Send k) = option_map_or (λ given. with_out k given.out queues) (next_for schemas.room world.room k) queues
  queues_after queues (event.Deliver number) =
      option_map_or (λ client. option_map_or (λ k. without_first k queues) (session_of client.connection) queues) (slice_get world.clients number) queues
  queues_after queues other = queues

  -- queues hold what is in flight: there is one for each session, and in that of a client's current session is what the notices tell
  pub record AreQueues (queues : Queues) : Type 0 where
    pub long : length queues ≡ length world.channels
    pub told_are : (number k : ℕ) (client : Client) (channel : Channel) → slice_get world.clients number ≡ Some client → session_of client.connection ≡ Some k
        → slice_get world.channels k ≡ Some channel → queue_at k queues ≡ map (told schemas world.room client k) channel.to_client
