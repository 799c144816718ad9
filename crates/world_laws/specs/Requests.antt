-- What the room knows of a client on the client's current session, and what it is still to hear.
use Rattle.std.specs.Prelude.{◌≡◌, ◌⊎◌, ℕ, negsuc, List, [], ◌∷◌, decimal, false, slice_get, Some, Ok}
use Rattle.room_model.specs.Schemas.{WorldSchemas, Plan}
use Rattle.room_model.specs.Rooms.{Phase, new, asked, live, ended, gone, Session, Notice, snapshot_at, updates_between, pong, end}
use Rattle.room_model.specs.Replicas.{Client, is_open, session_of, schema_of, plan_of}
use Rattle.room_model.specs.Worlds.{Channel, World}
use Rattle.room_model.specs.declared.connection.Connection.TheVariants.{Asking}
use Rattle.room_model.specs.declared.limits.TheConstants.{PROTOCOL}
use Rattle.sync_msgs.specs.declared.client_message.ClientMessage.{ClientMessage}
use Rattle.sync_msgs.specs.declared.client_message.ClientMessage.TheVariants.{Connect}

-- neither an answer nor data is among notices
abbrev pub HasNoData : List Notice → Type 0
HasNoData [] = Unit {0}
HasNoData (snapshot_at clock ∷ notices) = ⊥
HasNoData (updates_between from to ∷ notices) = ⊥
HasNoData (pong ∷ notices) = HasNoData notices
HasNoData (end reason ∷ notices) = HasNoData notices

module _ {F : Type 0} (schemas : WorldSchemas F) where
  -- what a client says on a session that it asks for: the session's number, its clock, its schema
  abbrev pub request_of : Client → ℕ → ClientMessage
  request_of client k = Connect (decimal k) client.reached PROTOCOL (schema_of schemas client).versions

  -- the room would have a client
  abbrev pub IsFit : Client → Type 0
  IsFit client = (plan : Plan) × (plan_of schemas client ≡ Ok plan)

  -- a client's session by its phase: if it is new, the client asks, and its request alone is in flight; if it has asked, it has what the
  -- client said; if it is live, it has the client's plan; and while a client asks on one that isn't new, nothing is in flight from it
  abbrev pub IsHeard : Client → ℕ → Phase → List ClientMessage → Type 0
  IsHeard client k new messages = (client.connection ≡ Asking k) × (messages ≡ request_of client k ∷ [])
  IsHeard client k (asked request reached plan) messages =
      (client.connection ≡ Asking k) × (messages ≡ []) × (request ≡ decimal k) × (reached ≡ client.reached) × (plan_of schemas client ≡ Ok plan)
  IsHeard client k (live sent plan) messages = (client.connection ≡ Asking k → messages ≡ []) × (plan_of schemas client ≡ Ok plan)
  IsHeard client k (ended reason told) messages = client.connection ≡ Asking k → messages ≡ []
  IsHeard client k gone messages = client.connection ≡ Asking k → messages ≡ []

  -- it is so of each client and its current session
  abbrev pub AreHeard : World → Type 0
  AreHeard world =
      (number k : ℕ) (client : Client) (session : Session) (channel : Channel)
      → slice_get world.clients number ≡ Some client → session_of client.connection ≡ Some k
      → slice_get world.room.sessions k ≡ Some session → slice_get world.channels k ≡ Some channel → IsHeard client k session.phase channel.to_room

  -- a client that the room wouldn't have reached no clock, and isn't connected
  abbrev pub HasReachedFit : Client → Type 0
  HasReachedFit client = IsFit client ⊎ ((client.reached ≡ negsuc 0) × (is_open client.connection ≡ false))

  -- clients that the room wouldn't have: each is so, and no answer or data is in flight to one
  pub record AreBarred (world : World) : Type 0 where
    pub reached : (number : ℕ) (client : Client) → slice_get world.clients number ≡ Some client → HasReachedFit client
    pub told : (number k : ℕ) (client : Client) (channel : Channel) → slice_get world.clients number ≡ Some client → session_of client.connection ≡ Some k
        → slice_get world.channels k ≡ Some channel → IsFit client ⊎ HasNoData channel.to_client
