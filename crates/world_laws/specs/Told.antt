-- The messages in flight to clients: what a notice tells, what a client expects of it, and what the client makes of it.
use Rattle.std.specs.Prelude.{◌≡◌, ℕ, ℤ, int_lt, pos, List, [], ◌∷◌, drop, decimal, slice_get, false, Some, option_map, Result, Ok, Err}
use Rattle.std.specs.Option.{option_map_or}
use Rattle.rooms_val.specs.Data.{Pairs}
use Rattle.room_model.specs.Schemas.{WorldSchemas, Plan, Member, records_with}
use Rattle.room_model.specs.Histories.{History, oldest, up_to}
use Rattle.room_model.specs.Messages.{snapshot, updates}
use Rattle.room_model.specs.Bases.{is_told}
use Rattle.room_model.specs.Taking.{Replica, after_events, after_hydration}
use Rattle.room_model.specs.Rooms.{Room, Notice, snapshot_at, updates_between, pong, end}
use Rattle.room_model.specs.Replicas.{Pending, Client, schema_of, plan_of, seen_by, reached_records, base_of, others}
use Rattle.room_model.specs.Worlds.{World, shown_in}
use Rattle.room_model.specs.declared.connection.Connection.{Connection}
use Rattle.room_model.specs.declared.connection.Connection.TheVariants.{Off, Asking, Open}
use Rattle.sync_msgs.specs.declared.data_event.DataEvent.{DataEvent}
use Rattle.sync_msgs.specs.declared.data_event.DataEvent.TheVariants.{Patch, PushResult}
use Rattle.sync_msgs.specs.declared.end_reason.EndReason.{EndReason}
use Rattle.sync_msgs.specs.declared.out.Out.{Out}
use Rattle.sync_msgs.specs.declared.out.Out.TheVariants.{Message, End}
use Rattle.sync_msgs.specs.declared.server_message.ServerMessage.TheVariants as reply

-- a plan, the empty one of whom the room wouldn't have
abbrev pub plan_or_none : Result Plan EndReason → Plan
plan_or_none (Ok plan) = plan
plan_or_none (Err reason) = []

-- a number is that under which the first of some items was sent
abbrev pub IsOfFirst : ℤ → List Pending → Type 0
IsOfFirst client_clock [] = ⊥
IsOfFirst client_clock (item ∷ items) = option_map pos item.sent_as ≡ Some client_clock

-- events are in order for whom holds a clock and has pending items: no clock falls below the one held then, and each result is that of
-- the first item that is pending then
abbrev pub AreInOrder : ℤ → List Pending → List DataEvent → Type 0
AreInOrder held items [] = Unit {0}
AreInOrder held items (Patch diff clock ∷ events) = (int_lt clock held ≡ false) × AreInOrder clock items events
AreInOrder held items (PushResult client_clock clock action ∷ events) =
    IsOfFirst client_clock items × (int_lt clock held ≡ false) × AreInOrder clock (drop 1 items) events

-- the clock that is held after events
abbrev pub clock_after : ℤ → List DataEvent → ℤ
clock_after held [] = held
clock_after held (Patch diff clock ∷ events) = clock_after clock events
clock_after held (PushResult client_clock clock action ∷ events) = clock_after clock events

-- a client expects what it is given on a session: while it asks, the answer to its request; while it is connected, events in
-- order or a pong; and at any time the end of the session
abbrev pub IsExpected : Client → ℕ → Out → Type 0
IsExpected client k (Message (reply.Connect hydration request protocol versions diff clock readonly)) = (client.connection ≡ Asking k) × (request ≡ decimal k)
IsExpected client k (Message (reply.Data events)) = (client.connection ≡ Open k) × AreInOrder client.reached client.pending events
IsExpected client k (Message reply.Pong) = client.connection ≡ Open k
IsExpected client k (End reason) = Unit {0}

module _ {F : Type 0} (schemas : WorldSchemas F) where
  -- a client as a member of a room, on a session
  abbrev pub member_in : Room → Client → ℕ → Member
  member_in room client k = record {
    session = k;
    readonly = option_map_or (λ s. s.readonly) (slice_get room.sessions k) false;
    plan = plan_or_none (plan_of schemas client);
  }

  -- what a notice tells a client on a session: what the room gives out at the notice's clock
  abbrev pub told : Room → Client → ℕ → Notice → Out
  told room client k (snapshot_at clock) =
      Message (snapshot schemas.room (member_in room client k) (decimal k) client.reached room.first (oldest clock room.history))
  told room client k (updates_between from to) = Message (updates schemas.room (member_in room client k) from (oldest to room.history))
  told room client k pong = Message reply.Pong
  told room client k (end reason) = End reason

  -- what a client has of the room at its clock, by its connection: the document, and while it is connected the presence of others
  abbrev pub base_by : History → Client → Connection → Pairs
  base_by history client Off = base_of schemas history client
  base_by history client (Asking k) = base_of schemas history client
  base_by history client (Open k) = seen_by schemas (plan_of schemas client) (records_with (is_told schemas.room k) (reached_records schemas history client))

  -- the replica of a client
  abbrev pub replica_of : History → Client → Replica
  replica_of history client = record { base = base_by history client client.connection; pending = client.pending }

  -- by what it is given a client comes to a clock and a base, and by events to what is still pending
  abbrev pub IsTaken : History → Client → Out → Client → Type 0
  IsTaken history client (Message (reply.Connect hydration request protocol versions diff clock readonly)) after =
      (clock ≡ after.reached)
      × (after_hydration (schema_of schemas client).admits schemas.room.is_document (replica_of history client).base hydration diff ≡ (replica_of history after).base)
  IsTaken history client (Message (reply.Data events)) after =
      (clock_after client.reached events ≡ after.reached)
      × (after_events (schema_of schemas client).admits (replica_of history client) events ≡ replica_of history after)
  IsTaken history client (Message reply.Pong) after = client ≡ after
  IsTaken history client (End reason) after =
      (client.reached ≡ after.reached) × (records_with schemas.room.is_document (replica_of history client).base ≡ (replica_of history after).base)

  -- a client has the same of the room in two worlds: the history up to its clock, and by that its replica, what it shows, and the others
  pub record HasSame (before after : World) (client : Client) : Type 0 where
    pub history : up_to client.reached after.room.history ≡ up_to client.reached before.room.history
    pub replica : replica_of after.room.history client ≡ replica_of before.room.history client
    pub shown : shown_in schemas after client ≡ shown_in schemas before client
    pub others_are : others schemas after.room.history client ≡ others schemas before.room.history client
