-- A client that follows its session: it asks as one that has reached no clock, pushes its items in order, and takes what it is given.
use Rattle.std.specs.Prelude.{◌≡◌, ℕ, pos, negsuc, List, [], ◌∷◌, fold, filter_map, drop, count_by, Bool, Option, Some, None, option_map, unwrap_or, Ok}
use Rattle.rooms_val.specs.Data.{Data, Pairs}
use Rattle.room_model.specs.Schemas.{Schemas, Plan}
use Rattle.room_model.specs.Accepting.{Push}
use Rattle.room_model.specs.Histories.{History, records_of, is_by}
use Rattle.room_model.specs.Closing.{push_of}
use Rattle.room_model.specs.Bases.{whole_for}
use Rattle.room_model.specs.Replicas.{Pending, diff_in}
use Rattle.room_model.specs.Taking.{Replica, after_events, after_hydration}
use Rattle.room_events.specs.declared.room_event.RoomEvent.{RoomEvent}
use Rattle.room_events.specs.declared.room_event.RoomEvent.TheVariants as call
use Rattle.sync_msgs.specs.declared.client_message.ClientMessage.TheVariants as message
use Rattle.sync_msgs.specs.declared.data_event.DataEvent.{DataEvent}
use Rattle.sync_msgs.specs.declared.data_event.DataEvent.TheVariants.{Patch, PushResult}
use Rattle.sync_msgs.specs.declared.out.Out.{Out}
use Rattle.sync_msgs.specs.declared.out.Out.TheVariants.{Message, End}
use Rattle.sync_msgs.specs.declared.server_message.ServerMessage.{ServerMessage}
use Rattle.sync_msgs.specs.declared.server_message.ServerMessage.TheVariants as reply

-- a client on a session
pub record Follower : Type 0 where
  -- the text under which it asks to be connected
  pub request : List ℕ
  -- which records its schema admits, and the plan from that, if the room takes it
  pub admits : List ℕ → Data → Bool
  pub plan : Plan
  -- the base that it had before, which it won't keep
  pub base : Pairs
  -- what it pushes on the session, the oldest first: also what it will push later, under the numbers that it gets there
  pub items : List Pending

-- the push that an event is, if it is one
abbrev pub pushed_by : RoomEvent → Option Push
pushed_by (call.Enter number readonly) = None
pushed_by (call.Message number said replied) = push_of said
pushed_by (call.Drain number out) = None
pushed_by (call.Leave number) = None

-- the pushes among the events of a session, in order
abbrev pub pushes_of : List RoomEvent → List Push
pushes_of events = filter_map pushed_by events

-- a push is that of an item: it has the item's number and diff, the empty one for a presence
abbrev pub IsPushOf : Pending → Push → Type 0
IsPushOf item push = (option_map pos item.sent_as ≡ Some push.client_clock) × (push.diff ≡ unwrap_or (diff_in item.work) [])

-- pushes are those of the first of some items, in order
abbrev pub ArePushed : List Pending → List Push → Type 0
ArePushed items [] = Unit {0}
ArePushed [] (push ∷ pushes) = ⊥
ArePushed (item ∷ items) (push ∷ pushes) = IsPushOf item push × ArePushed items pushes

-- the request under which a snapshot is sent
abbrev pub request_of : ServerMessage → Option (List ℕ)
request_of (reply.Connect hydration request protocol versions diff clock readonly) = Some request
request_of (reply.Data events) = None
request_of reply.Pong = None

-- the results among events are those of the first of some items, in order
abbrev pub AreResultsOf : List Pending → List DataEvent → Type 0
AreResultsOf items [] = Unit {0}
AreResultsOf items (Patch diff clock ∷ events) = AreResultsOf items events
AreResultsOf [] (PushResult client_clock clock action ∷ events) = ⊥
AreResultsOf (item ∷ items) (PushResult client_clock clock action ∷ events) = (option_map pos item.sent_as ≡ Some client_clock) × AreResultsOf items events

-- the replica of a client that was told nothing: pending are all its items, those too that it will push later
abbrev pub first_replica : Follower → Replica
first_replica client = record { base = client.base; pending = client.items }

module _ (schemas : Schemas) where
  -- a connect is under the client's request, says that no clock was reached, and tells a schema from which no plan but the client's
  -- leads: the room may also refuse it. Nothing is said of other events
  abbrev pub Asks : Follower → RoomEvent → Type 0
  Asks client (call.Message number (message.Connect request reached protocol versions) replied) =
      (reached ≡ negsuc 0) × ((plan : Plan) → schemas.plan_for versions ≡ Ok plan → plan ≡ client.plan) × (request ≡ client.request)
  Asks client event = Unit {0}

  -- the same of each of some events
  abbrev pub AllAsk : Follower → List RoomEvent → Type 0
  AllAsk client [] = Unit {0}
  AllAsk client (event ∷ events) = Asks client event × AllAsk client events

  -- a client follows a session with some events: their messages are its own, in order; and one at the room's schema admits what the
  -- room does
  pub record Follows (client : Follower) (mine : List RoomEvent) : Type 0 where
    pub asks : AllAsk client mine
    pub pushes : ArePushed client.items (pushes_of mine)
    pub admits : client.plan ≡ [] → (id : List ℕ) (d : Data) → client.admits id d ≡ schemas.admits id d

  -- what something given makes of a replica: a snapshot of its base, and updates of its base and of what is pending
  abbrev pub replica_given : (List ℕ → Data → Bool) → Replica → Option Out → Replica
  replica_given admits replica (Some (Message (reply.Connect hydration request protocol versions diff clock readonly))) =
      record replica { base = after_hydration admits schemas.is_document replica.base hydration diff }
  replica_given admits replica (Some (Message (reply.Data events))) = after_events admits replica events
  replica_given admits replica (Some (Message reply.Pong)) = replica
  replica_given admits replica (Some (End reason)) = replica
  replica_given admits replica None = replica

  -- the same of an event of the session
  abbrev pub replica_after : (List ℕ → Data → Bool) → Replica → RoomEvent → Replica
  replica_after admits replica (call.Enter number readonly) = replica
  replica_after admits replica (call.Message number said replied) = replica
  replica_after admits replica (call.Drain number out) = replica_given admits replica out
  replica_after admits replica (call.Leave number) = replica

  -- the replica of a client after events of its session
  abbrev pub replica_of : Follower → List RoomEvent → Replica
  replica_of client mine = fold (replica_after client.admits) (first_replica client) mine

  -- the replica of a client that was told all of a history: the base is the room's, seen along its plan with the presence of others
  -- alone; and pending are all but as many of the first items as the session has entries there
  abbrev pub told_replica : Follower → ℕ → History → Replica
  told_replica client number history = record {
    base = whole_for schemas client.plan number (records_of history);
    pending = drop (count_by (is_by number) history) client.items;
  }
