-- What moves between clients and the room while an event happens.
use Rattle.std.specs.Prelude.{◌≡◌, ℕ, nat_le, [], ◌∷◌, ◌++◌, Bool, true, false, ◌||◌, Some}
use Rattle.room_model.specs.Schemas.{WorldSchemas}
use Rattle.room_model.specs.Rooms.{Room, Notice, is_full, after_enter}
use Rattle.room_model.specs.Replicas.{Client, session_of, after_notice}
use Rattle.room_model.specs.Worlds as model
use Rattle.room_model.specs.declared.limits.TheConstants.{MOST_RECORDED}
use Rattle.sync_msgs.specs.declared.client_message.ClientMessage.{ClientMessage}
use Rattle.sync_msgs.specs.declared.out.Out.{Out}
use Rattle.side_effects.specs.declared.fault.EditFault.{EditFault}
use Rattle.world_laws.specs.Told.{told, IsExpected, IsTaken}
use Rattle.world_queues.specs.Queues.{to_room, to_client}
use Rattle.sync_room.specs.Standing as room_of
use Rattle.sync_world.specs.declared.live.Live.{Live}

-- a session has entered the room, with its request in flight
pub record HasEntered (readonly : Bool) (request : ClientMessage) (state : Room) (before after : Live) : Type 0 where
  pub room : room_of.Stands (after_enter readonly state) after.room
  pub schema : room_of.tree_of after.room ≡ room_of.tree_of before.room
  pub sent : to_room after.queues ≡ to_room before.queues ++ (request ∷ []) ∷ []
  pub given : to_client after.queues ≡ to_client before.queues ++ [] ∷ []

-- nobody has entered
pub record HasStayed (state : Room) (before after : Live) : Type 0 where
  pub room : room_of.Stands state after.room
  pub schema : room_of.tree_of after.room ≡ room_of.tree_of before.room
  pub sent : to_room after.queues ≡ to_room before.queues
  pub given : to_client after.queues ≡ to_client before.queues

-- there is no place for a session of this number, in the room or in a recording
abbrev pub has_no_place : ℕ → Room → Bool
has_no_place session room = is_full room || nat_le MOST_RECORDED session

-- a session of this number enters if there is place for it
abbrev pub Enters : ℕ → Bool → ClientMessage → Room → Bool → Live → Live → Type 0
Enters session readonly request state true before after = (has_no_place session state ≡ false) × HasEntered readonly request state before after
Enters session readonly request state false before after = (has_no_place session state ≡ true) × HasStayed state before after

-- what a client is given on its session is what the notice tells; the client expects it, and comes by it to where the notice leads
pub record IsDelivery (schemas : WorldSchemas EditFault) (world : model.World) (client : Client) (k : ℕ) (given : Out) (notice : Notice) : Type 0 where
  pub session : session_of client.connection ≡ Some k
  pub told : given ≡ told schemas world.room client k notice
  pub expected : IsExpected client k given
  pub taken : IsTaken schemas world.room.history client given (after_notice world.room.history k client notice).client
