-- What is sent is what the notice tells, and stays so while it is in flight.
use Rattle.std.proofs.Common.{◌≡◌, ℕ, ◌-◌, ◌≤◌, nat_lt, Bool, true, false, cond, List, [], ◌∷◌, ◌++◌, length, map, slice_get, slice_set, Option, Some, None, Ok, refl, sym, ap, subst, ◌∙◌}
use Rattle.std.specs.Prelude.{decimal, get_or}
use Rattle.std.specs.Option.{option_map_or}
use Rattle.std.proofs.lemmas.Option.{same_Some, slice_get-get_or}
use Rattle.room_model.specs.Schemas.{WorldSchemas, Plan}
use Rattle.room_model.specs.Histories.{oldest}
use Rattle.room_model.specs.Messages.{snapshot, updates}
use Rattle.room_model.specs.Rooms.{Phase, new, asked, live, ended, gone, Session, Room, Notice, snapshot_at, updates_between, pong, end, Given, pong_or, next_in, next_for, session_at, after_drain}
use Rattle.room_model.specs.Replicas.{Client, session_of, plan_of}
use Rattle.room_model.specs.Worlds.{Channel, World, Stepped, after_event}
use Rattle.room_model.specs.declared.event.Event.{Event}
use Rattle.room_model.proofs.CallLemmas.{chained}
use Rattle.sync_msgs.specs.declared.client_message.ClientMessage.{ClientMessage}
use Rattle.sync_msgs.specs.declared.out.Out.TheVariants.{Message}
use Rattle.sync_msgs.specs.declared.server_message.ServerMessage.TheVariants as reply
use Rattle.world_laws.specs.Reachable.{ReachableWorld, stepped}
use Rattle.world_laws.specs.Channels.{Lead, IsAt}
use Rattle.world_laws.specs.Clocks.{AreWithin}
use Rattle.world_laws.specs.Requests.{IsHeard}
use Rattle.world_laws.specs.Told.{plan_or_none, member_in, told}
use Rattle.world_laws.proofs.RoomLemmas.{there}
use Rattle.world_laws.proofs.SessionLemmas.{sessions_stand}
use Rattle.world_laws.proofs.ClockLemmas.{clocks_stand}
use Rattle.world_laws.proofs.DownLemmas.{sent_stand}
use Rattle.world_laws.proofs.DueLemmas.{waits}
use Rattle.world_laws.proofs.RequestLemmas.{heard_stand}
use Rattle.world_laws.proofs.ShownLemmas.{oldest_all}
use Rattle.world_laws.proofs.LaterLemmas.{got_at, event_later}

-- the session of a client that is made, in a world
pub session_in : {F : Type 0} (schemas : WorldSchemas F) (w : World) (n k : ℕ) (c : Client) → ReachableWorld schemas w → slice_get w.clients n ≡ Some c → session_of c.connection ≡ Some k
    → (s : Session) × (slice_get w.room.sessions k ≡ Some s)
session_in schemas w n k c made at has =
    let less = (sessions_stand schemas w made).entered n k (record { client = c; made = at; has = has }) in
    let d : Session = record { readonly = false; pings = 0; phase = gone } in
    (get_or w.room.sessions k d, slice_get-get_or w.room.sessions k d less)

module _ {F : Type 0} (schemas : WorldSchemas F) where
  -- a member is told by a room that has the session, as read-only
  member_same : (room : Room) (c : Client) (k : ℕ) (s : Session) (readonly : Bool) (plan : Plan) → slice_get room.sessions k ≡ Some s → s.readonly ≡ readonly → plan_of schemas c ≡ Ok plan
      → record { session = k; readonly = readonly; plan = plan } ≡ member_in schemas room c k
  member_same room c k s readonly plan at same planned =
      let there : readonly ≡ option_map_or (λ (s : Session). s.readonly) (slice_get room.sessions k) false = sym (ap (λ o. option_map_or (λ (s : Session). s.readonly) o false) at ∙ same) in
      let plans : plan ≡ plan_or_none (plan_of schemas c) = sym (ap plan_or_none planned) in
      λ i. record { session = k; readonly = there i; plan = plans i }

  -- what a session of a client is given is what the notice tells

  module _ (room : Room) (c : Client) (k : ℕ) (s : Session) (at : slice_get room.sessions k ≡ Some s) where
    abbrev IsTold : Given → Type 0
    IsTold given = given.out ≡ told schemas (after_drain room k given) c k given.notice

    abbrev IsTold_if : Option Given → Type 0
    IsTold_if None = Unit {0}
    IsTold_if (Some given) = IsTold given

    member_after : (after : Session) (plan : Plan) → after.readonly ≡ s.readonly → plan_of schemas c ≡ Ok plan
        → record { session = k; readonly = s.readonly; plan = plan } ≡ member_in schemas (record room { sessions = slice_set room.sessions k after }) c k
    member_after after plan same planned = member_same (record room { sessions = slice_set room.sessions k after }) c k after s.readonly plan (got_at room.sessions k s after at) same planned

    told_pong : (later : Option Given) → IsTold_if later → IsTold_if (pong_or s later)
    told_pong later h =
        let given : Given = record { out = Message reply.Pong; notice = pong; after = record s { pings = s.pings - 1 } } in
        elim (nat_lt 0 s.pings) as (λ b. IsTold_if (cond b (Some given) later)) [ true ↦ refl | false ↦ h ]

    given_told : (phase : Phase) (messages : List ClientMessage) → IsHeard schemas c k phase messages → IsTold_if (next_in schemas.room room k s phase)
    given_told new messages heard = told_pong None tt
    given_told (asked request reached plan) messages heard =
        let clock = length room.history in
        let after : Session = record s { phase = live clock plan } in
        let member = member_after after plan refl heard.4 in
        let all = sym (oldest_all room.history) in
        λ i. Message (snapshot schemas.room (member i) (heard.2 i) (heard.3 i) room.first (all i))
    given_told (live sent plan) messages heard =
        let clock = length room.history in
        let after : Session = record s { phase = live clock plan } in
        let member = member_after after plan refl heard.1 in
        let all = sym (oldest_all room.history) in
        told_pong _ (elim (nat_lt sent clock) as (λ b. IsTold_if (cond b (Some (record {
          out = Message (updates schemas.room (record { session = k; readonly = s.readonly; plan = plan }) sent room.history);
          notice = updates_between sent clock;
          after = after;
        })) None)) [
          | true ↦ λ i. Message (updates schemas.room (member i) sent (all i))
          | false ↦ tt
        ])
    given_told (ended reason true) messages heard = tt
    given_told (ended reason false) messages heard = refl
    given_told gone messages heard = tt

  pub sent_told : (w : World) (n k : ℕ) (c : Client) (channel : Channel) (given : Given) → ReachableWorld schemas w → slice_get w.clients n ≡ Some c
      → session_of c.connection ≡ Some k → slice_get w.channels k ≡ Some channel → next_for schemas.room w.room k ≡ Some given
      → given.out ≡ told schemas (after_drain w.room k given) c k given.notice
  sent_told w n k c channel given made at has opened is =
      let h = chained (λ s. next_in schemas.room w.room k s s.phase) (session_at k w.room) given is in
      let found = (there w.room k h.0 h.1).at in
      let heard = heard_stand schemas w made n k c h.0 channel at has found opened in
      subst (IsTold_if w.room c k h.0 found) h.2 (given_told w.room c k h.0 found h.0.phase channel.to_room heard)

  -- what a notice tells in a later world

  module _ (w v : World) (c d : Client) (k : ℕ) (members : member_in schemas v.room d k ≡ member_in schemas w.room c k) (first : v.room.first ≡ w.room.first)
      (same : (clock : ℕ) → clock ≤ length w.room.history → oldest clock v.room.history ≡ oldest clock w.room.history) where
    abbrev Same : List Notice → Type 0
    Same notices = map (told schemas v.room d k) notices ≡ map (told schemas w.room c k) notices

    told_snapshot : (clock : ℕ) → clock ≤ length w.room.history → d.reached ≡ c.reached → told schemas v.room d k (snapshot_at clock) ≡ told schemas w.room c k (snapshot_at clock)
    told_snapshot clock less reached = λ i. Message (snapshot schemas.room (members i) (decimal k) (reached i) (first i) (same clock less i))

    told_updates : (from to : ℕ) → to ≤ length w.room.history → told schemas v.room d k (updates_between from to) ≡ told schemas w.room c k (updates_between from to)
    told_updates from to less = λ i. Message (updates schemas.room (members i) from (same to less i))

    all_told : (place : Option ℕ) (notices later : List Notice) (last : Option ℕ) → Lead place (notices ++ later) last → AreWithin (length w.room.history) notices
        → (place ≡ None → d.reached ≡ c.reached) → Same notices
    all_told place [] later last leads within reached = refl
    all_told None (snapshot_at clock ∷ notices) later last leads within reached =
        let rest = all_told (Some clock) notices later last leads within.1 (λ no. absurd (cc)) in
        λ i. told_snapshot clock within.0 (reached refl) i ∷ rest i
    all_told (Some r) (snapshot_at clock ∷ notices) later last leads within reached = absurd leads
    all_told None (updates_between from to ∷ notices) later last leads within reached = absurd leads
    all_told (Some r) (updates_between from to ∷ notices) later last leads within reached =
        let rest = all_told (Some to) notices later last leads.2 within.1 (λ no. absurd (cc)) in
        λ i. told_updates from to within.0.1 i ∷ rest i
    all_told None (pong ∷ notices) later last leads within reached = ap (λ r. Message reply.Pong ∷ r) (all_told None notices later last leads within.1 reached)
    all_told (Some r) (pong ∷ notices) later last leads within reached = ap (λ r. Message reply.Pong ∷ r) (all_told (Some r) notices later last leads within.1 reached)
    all_told None (end reason ∷ notices) later last leads within reached = ap (λ r. told schemas w.room c k (end reason) ∷ r) (all_told None notices later last leads within.1 reached)
    all_told (Some r) (end reason ∷ notices) later last leads within reached = ap (λ r. told schemas w.room c k (end reason) ∷ r) (all_told (Some r) notices later last leads within.1 reached)

  within_rest : (clock : ℕ) (xs ys : List Notice) → AreWithin clock (xs ++ ys) → AreWithin clock ys
  within_rest clock [] ys h = h
  within_rest clock (x ∷ xs) ys h = within_rest clock xs ys h.1

  pub told_stays : (trace : Bool) (w : World) (event : Event) (made : Stepped) (n k : ℕ) (c d : Client) (before after : Channel) (earlier notices later : List Notice)
      → ReachableWorld schemas w → after_event schemas trace w event ≡ Ok made
      → slice_get w.clients n ≡ Some c → session_of c.connection ≡ Some k → slice_get w.channels k ≡ Some before → before.to_client ≡ earlier ++ notices
      → slice_get made.world.clients n ≡ Some d → session_of d.connection ≡ Some k → slice_get made.world.channels k ≡ Some after → after.to_client ≡ notices ++ later
      → map (told schemas made.world.room d k) notices ≡ map (told schemas w.room c k) notices
  told_stays trace w event made n k c d before after earlier notices later reached is at has opened was now_at now_has now_open now =
      let v = made.world in
      let next = stepped trace w event made reached is in
      let goes = event_later schemas w trace event made reached is in
      let like = goes.clients n c at in
      let it : like.0 ≡ d = same_Some _ _ (sym like.1 ∙ now_at) in
      let entered = (sessions_stand schemas w reached).entered n k (record { client = c; made = at; has = has }) in
      let session = session_in schemas w n k c reached at has in
      let then = goes.room.sessions k session.0 session.1 in
      let version : d.version ≡ c.version = sym (ap (λ (x : Client). x.version) it) ∙ like.2.version in
      let plans : plan_or_none (plan_of schemas d) ≡ plan_or_none (plan_of schemas c) = ap (λ v. plan_or_none (schemas.room.plan_for (schemas.client v).versions)) version in
      let readonly : option_map_or (λ (s : Session). s.readonly) (slice_get v.room.sessions k) false ≡ option_map_or (λ (s : Session). s.readonly) (slice_get w.room.sessions k) false =
      ap (λ o. option_map_or (λ (s : Session). s.readonly) o false) then.1 ∙ then.2 ∙ sym (ap (λ o. option_map_or (λ (s : Session). s.readonly) o false) session.1) in
      let members : member_in schemas v.room d k ≡ member_in schemas w.room c k = λ i. record { session = k; readonly = readonly i; plan = plans i } in
      let held = session_in schemas v n k d next now_at now_has in
      let sent = sent_stand schemas v next n k d held.0 after now_at now_has held.1 now_open in
      let within = within_rest (length w.room.history) earlier notices (subst (AreWithin (length w.room.history)) was ((clocks_stand schemas w reached).told k before opened)) in
      all_told w v c d k members goes.room.first goes.room.grown.same sent.place notices later sent.last (subst (λ ns. Lead sent.place ns sent.last) now sent.leads) within
      (λ none.
      let asks = waits d.connection k d.reached now_has (subst (IsAt d.connection d.reached) none sent.at) in
      sym (ap (λ (x : Client). x.reached) it) ∙ like.2.asks k entered (ap (λ (x : Client). x.connection) it ∙ asks))
