-- A client takes what it expects, and comes by it to where the notice leads.
use Rattle.std.proofs.Common.{◌≡◌, ℕ, ℤ, pos, cond, List, [], ◌∷◌, Some, None, refl, ap, ◌∙◌}
use Rattle.std.specs.Prelude.{decimal}
use Rattle.std.specs.Option.{option_or}
use Rattle.std.specs.Str.{bytes_eq}
use Rattle.room_model.specs.Schemas.{WorldSchemas}
use Rattle.room_model.specs.Histories.{History}
use Rattle.room_model.specs.Rooms.{Room, Notice, snapshot_at, updates_between, pong, end}
use Rattle.room_model.specs.Replicas.{Pending, Client, push_all, after_updates, after_notice, schema_of}
use Rattle.room_model.specs.declared.connection.Connection.TheVariants.{Open}
use Rattle.sync_msgs.specs.declared.data_event.DataEvent.{DataEvent}
use Rattle.sync_msgs.specs.declared.data_event.DataEvent.TheVariants.{Patch, PushResult}
use Rattle.sync_msgs.specs.declared.out.Out.TheVariants.{Message}
use Rattle.sync_msgs.specs.declared.server_message.ServerMessage.{ServerMessage}
use Rattle.sync_msgs.specs.declared.server_message.ServerMessage.TheVariants as message
use Rattle.world_laws.specs.Told as told
use Rattle.world_laws.specs.Told.{AreInOrder, IsExpected, IsTaken}
use Rattle.world_laws.proofs.PushLemmas.{answered, snapshot_same}
use Rattle.sync_client.specs.Calls.{opened, after_message}
use Rattle.sync_client.specs.Faults.{clock_fault, clock_after, events_fault, answer_fault, open_fault, take_fault}
use Rattle.sync_client.specs.declared.fault.TakeFault.TheVariants.{WrongRequest, ClockBack}
use Rattle.sync_client.proofs.FaultLemmas.{number-expected}
use Rattle.sync_world.specs.States.{client_state}
use Rattle.sync_world.proofs.WorldLemmas.{base_alike}
use Rattle.rooms_val.proofs.Truths.{bytes_eq_itself}

-- events in order are at no fault
in_order : (reached : ℤ) (items : List Pending) (events : List DataEvent) → AreInOrder reached items events → events_fault items reached events ≡ None
in_order reached items [] h = refl
in_order reached items (Patch diff clock ∷ events) h =
    ap (λ b. option_or (cond b (Some (ClockBack reached clock)) None) (events_fault items clock events)) h.0 ∙ in_order clock items events h.1
in_order reached [] (PushResult number clock action ∷ events) h = absurd h.0
in_order reached (item ∷ items) (PushResult number clock action ∷ events) h =
    ap (λ o. option_or (option_or o (clock_fault reached clock)) (events_fault items clock events)) (number-expected item.sent_as number h.0)
    ∙ ap (λ b. option_or (cond b (Some (ClockBack reached clock)) None) (events_fault items clock events)) h.1
    ∙ in_order clock items events h.2

same_clock : (reached : ℤ) (events : List DataEvent) → clock_after reached events ≡ told.clock_after reached events
same_clock reached [] = refl
same_clock reached (Patch diff clock ∷ events) = same_clock clock events
same_clock reached (PushResult number clock action ∷ events) = same_clock clock events

-- what is expected is taken
pub expected_taken : (c : Client) (k : ℕ) (said : ServerMessage) → IsExpected c k (Message said) → take_fault c said ≡ None
expected_taken c k (message.Connect hydration request protocol versions diff clock readonly) h =
    ap (λ x. answer_fault x request) h.0
    ∙ ap (λ text. cond (bytes_eq text (decimal k)) None (Some WrongRequest)) h.1
    ∙ ap (λ b. cond b None (Some WrongRequest)) (bytes_eq_itself (decimal k))
expected_taken c k (message.Data events) h = ap (λ x. open_fault x (events_fault c.pending c.reached events)) h.0 ∙ in_order c.reached c.pending events h.1
expected_taken c k message.Pong h = ap (λ x. open_fault x None) h

-- a client that was given what a notice tells, before it pushes
abbrev pub arrived : History → ℕ → Client → Notice → Client
arrived history k c (snapshot_at clock) = answered k clock c
arrived history k c (updates_between from to) = after_updates history k from to c
arrived history k c pong = c
arrived history k c (end reason) = c

module _ {F : Type 0} (schemas : WorldSchemas F) (room : Room) (c : Client) (k : ℕ) where
  -- it is the client with its base after the message that the notice tells
  pub arrives : (said : ServerMessage) (notice : Notice) → Message said ≡ told.told schemas room c k notice → IsExpected c k (Message said)
      → IsTaken schemas room.history c (Message said) (after_notice room.history k c notice).client
      → after_message (schema_of schemas c).admits schemas.room.is_document (client_state schemas room.history c) said ≡ client_state schemas room.history (arrived room.history k c notice)
  arrives (message.Connect hydration request protocol versions diff clock readonly) (snapshot_at at) is expected taken =
      let after : Client = answered k at c in
      let pushed = snapshot_same k at c in
      let reached : clock ≡ pos at = taken.0 ∙ pushed.reached in
      let connection : opened c.connection ≡ Open k = ap opened expected.0 in
      let base = taken.1 ∙ base_alike schemas room.history after (push_all after).client pushed.version pushed.reached pushed.connection in
      λ i. record { base = base i; client = record after { connection = connection i; reached = reached i } }
  arrives (message.Data events) (snapshot_at at) is expected taken = absurd (cc)
  arrives message.Pong (snapshot_at at) is expected taken = absurd (cc)
  arrives (message.Data events) (updates_between from to) is expected taken =
      let reached = same_clock c.reached events ∙ taken.0 in
      λ i. record { base = (taken.1 i).base; client = record c { reached = reached i; pending = (taken.1 i).pending } }
  arrives (message.Connect hydration request protocol versions diff clock readonly) (updates_between from to) is expected taken = absurd (cc)
  arrives message.Pong (updates_between from to) is expected taken = absurd (cc)
  arrives message.Pong pong is expected taken = refl
  arrives (message.Connect hydration request protocol versions diff clock readonly) pong is expected taken = absurd (cc)
  arrives (message.Data events) pong is expected taken = absurd (cc)
  arrives said (end reason) is expected taken = absurd (cc)
