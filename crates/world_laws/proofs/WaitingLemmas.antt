-- What clients owe that aren't connected.
use Rattle.std.proofs.Common.{◌≡◌, ℕ, zero, suc, ◌==◌, nat_lt, true, false, ◌&&◌, cond, List, [], ◌∷◌, ◌++◌, length, map, slice_get, Some, None, option_map, refl, sym, ap, subst, ◌∙◌, arith}
use Rattle.std.specs.Option.{option_map_or}
use Rattle.std.proofs.lemmas.Bool.Decides.{Decides-eqb}
use Rattle.std.proofs.lemmas.Option.{slice_get_within}
use Rattle.field_ops.specs.RecordOps.{RecordOps}
use Rattle.room_model.specs.Schemas.{WorldSchemas, AreLawfulTogether}
use Rattle.room_model.specs.Histories.{History, is_author}
use Rattle.room_model.specs.Naming.{AllNamed}
use Rattle.room_model.specs.Rooms.{live, Session, Notice, snapshot_at, updates_between, pong, end, Replied, after_message}
use Rattle.room_model.specs.Replicas.{Work, edit, presence, Pending, Client, new_client, is_open, session_of, Pushing, push_none, push_one, first_unsent, next_push, push_times, with_work, unsent, all_unsent, pending_diffs, after_cut, after_end, after_notice}
use Rattle.room_model.specs.Worlds.{Channel, World, with_client, with_channel, with_pushing}
use Rattle.room_model.specs.declared.connection.Connection.TheVariants.{Off, Asking, Open}
use Rattle.room_model.specs.declared.limits.TheConstants.{MOST_PUSHES}
use Rattle.room_model.proofs.ActingLemmas.{differ}
use Rattle.room_model.proofs.EntryLemmas.{reachable_names}
use Rattle.sync_msgs.specs.declared.client_message.ClientMessage.{ClientMessage}
use Rattle.sync_msgs.specs.declared.end_reason.EndReason.{EndReason}
use Rattle.sync_msgs.specs.declared.end_reason.EndReason.TheVariants.{ClientTooOld, ServerTooOld, InvalidRecord, RoomFull, Slow}
use Rattle.world_laws.specs.Reachable.{ReachableWorld}
use Rattle.world_laws.specs.Requests.{IsHeard}
use Rattle.world_laws.specs.Channels.{IsDue}
use Rattle.world_laws.specs.Pending.{IsIdleWork, AreIdle, NoneBy, AreWaiting}
use Rattle.world_laws.proofs.EventLemmas.{IsInPlace, Acts, rests, works, Keeps, everywhere}
use Rattle.world_laws.proofs.PushLemmas.{each_set, each_added, snapshot_same, work_same, pushing_keeps}
use Rattle.world_laws.proofs.DiffLemmas.{room_reached}
use Rattle.world_laws.proofs.TurnLemmas.{leave_turns, message_turns}
use Rattle.world_laws.proofs.RequestLemmas.{heard_stand}
use Rattle.world_laws.proofs.DueLemmas.{next_due}

idle_edits : (diffs : List RecordOps) → AreIdle (all_unsent (map edit diffs))
idle_edits [] = tt
idle_edits (diff ∷ diffs) = ((refl, tt), idle_edits diffs)

idle_added : (items : List Pending) (work : Work) → AreIdle items → IsIdleWork work → AreIdle (items ++ unsent work ∷ [])
idle_added [] work h new = ((refl, new), tt)
idle_added (item ∷ items) work h new = (h.0, idle_added items work h.1 new)

-- a client that isn't connected pushes nothing
off_pushed : (n : ℕ) (c : Client) → is_open c.connection ≡ false → (push_times n c).client ≡ c
off_pushed zero c off = refl
off_pushed (suc n) c off =
    let none : next_push c ≡ None = ap (λ b. cond (b && nat_lt c.pushes MOST_PUSHES) (option_map (push_one c) (first_unsent c.pending)) None) off in
    ap (λ o. (option_map_or (λ one. let more = push_times n one.client in record more { messages = one.messages ++ more.messages }) o (push_none c)).client) none

-- what a client owes while it isn't connected
abbrev Idle : Client → Type 0
Idle c = is_open c.connection ≡ false → AreIdle c.pending

end_idle : (reason : EndReason) (c : Client) → Idle (after_end reason c)
end_idle Slow c off = idle_edits (pending_diffs c)
end_idle ClientTooOld c off = idle_edits (pending_diffs c)
end_idle ServerTooOld c off = idle_edits (pending_diffs c)
end_idle InvalidRecord c off = idle_edits (pending_diffs c)
end_idle RoomFull c off = idle_edits (pending_diffs c)

notice_idle : (history : History) (k : ℕ) (c : Client) (notice : Notice) → IsDue c k notice → Idle c → Idle (after_notice history k c notice).client
notice_idle history k c (snapshot_at clock) due h off = absurd (differ (sym (ap is_open (snapshot_same k clock c).connection) ∙ off))
notice_idle history k c (updates_between from to) due h off = absurd (differ (sym (ap is_open due.0) ∙ off))
notice_idle history k c pong due h off = h off
notice_idle history k c (end reason) due h off = end_idle reason c off

work_idle : (c : Client) (work : Work) → is_open c.connection ≡ false → IsInPlace c work → IsIdleWork work
work_idle c (edit diff) off place = tt
work_idle c (presence d) off place = differ (sym place ∙ off)

act_idle : {F : Type 0} (schemas : WorldSchemas F) (c : Client) (p : Pushing) → Acts schemas c p → Idle c → Idle p.client
act_idle schemas c _ (rests d q) h off = subst AreIdle (sym q.pending) (h (sym (ap is_open q.connection) ∙ off))
act_idle schemas c _ (works d work q place rising) h off =
    let e = with_work work d in
    let d_off : is_open d.connection ≡ false = sym (ap is_open (work_same d work).connection) ∙ off in
    let c_off : is_open c.connection ≡ false = sym (ap is_open q.connection) ∙ d_off in
    subst (λ (x : Client). AreIdle x.pending) (sym (off_pushed (length e.pending) e d_off))
    (idle_added d.pending work (subst AreIdle (sym q.pending) (h c_off)) (work_idle c work c_off place))

-- the connection of a client that asks
notice_asks : (history : History) (k : ℕ) (c : Client) (notice : Notice) (j : ℕ) → (after_notice history k c notice).client.connection ≡ Asking j → c.connection ≡ Asking j
notice_asks history k c (snapshot_at clock) j is = absurd (let e : Open k ≡ Asking j = sym (snapshot_same k clock c).connection ∙ is in cc)
notice_asks history k c (updates_between from to) j is = is
notice_asks history k c pong j is = is
notice_asks history k c (end reason) j is = absurd (elim reason as (λ r. (after_end r c).connection ≡ Asking j → ⊥) [
  | Slow ↦ λ is. absurd (cc)
  | ClientTooOld ↦ λ is. absurd (cc)
  | ServerTooOld ↦ λ is. absurd (cc)
  | InvalidRecord ↦ λ is. absurd (cc)
  | RoomFull ↦ λ is. absurd (cc)
] is)

pub act_asks : {F : Type 0} (schemas : WorldSchemas F) (c : Client) (p : Pushing) → Acts schemas c p → p.client.connection ≡ c.connection
act_asks schemas c _ (rests d q) = q.connection
act_asks schemas c _ (works d work q place rising) = (work_same d work).connection ∙ q.connection

-- the sessions on which clients wait have authored nothing
abbrev NoneAsks : History → Client → Type 0
NoneAsks history c = (k : ℕ) → c.connection ≡ Asking k → NoneBy k history

pub other_author : (k n : ℕ) → (k ≡ n → ⊥) → (n == k) ≡ false
other_author k n apart = elim (n == k) as (λ b. (n == k) ≡ b → b ≡ false) [
  | true ↦ λ is. absurd (apart (sym ((Decides-eqb n k).0 is)))
  | false ↦ λ is. refl
] refl

module _ {F : Type 0} (schemas : WorldSchemas F) (lawful : AreLawfulTogether schemas) where
  pub none_next : (sessions : List Session) (history : History) → AllNamed schemas.room sessions history → NoneBy (length sessions) history
  none_next sessions [] h = tt
  none_next sessions (entry ∷ history) h = (
    elim entry.author as (λ o. entry.author ≡ o → is_author (length sessions) o ≡ false) [
      | None ↦ λ is. refl
      | Some author ↦ λ is.
          let less = slice_get_within sessions author.session (h.0 author is).session (h.0 author is).entered in
          other_author (length sessions) author.session (λ same. absurd (omega arith))
    ] refl,
    none_next sessions history h.1,
  )

  waiting_pushing : (w : World) (n : ℕ) (p : Pushing) → AreWaiting (with_client n p.client w) → AreWaiting (with_pushing n p w)
  waiting_pushing w n p alone = pushing_keeps AreWaiting w n p alone (λ k channel is at. record { idle = alone.idle; none = alone.none })

  -- a client set
  waiting_client : (w : World) (n : ℕ) (d : Client) → Idle d → NoneAsks w.room.history d → AreWaiting w → AreWaiting (with_client n d w)
  waiting_client w n d idle none h = record {
    idle = each_set Idle w.clients n d h.idle idle;
    none = λ m k c at. each_set (NoneAsks w.room.history) w.clients n d (λ m c at k. h.none m k c at) none m c at k;
  }

  -- a room in which others pushed
  waiting_handled : (w : World) (k : ℕ) (channel : Channel) (said : ClientMessage) (messages : List ClientMessage) (replied : Replied) → ReachableWorld schemas w
      → slice_get w.channels k ≡ Some channel → channel.to_room ≡ said ∷ messages → after_message schemas.room w.room k said ≡ Some replied → AreWaiting w
      → (m j : ℕ) (e : Client) → slice_get w.clients m ≡ Some e → e.connection ≡ Asking j → NoneBy j replied.room.history
  waiting_handled w k channel said messages replied made there first is h m j e at asks =
      message_turns (λ r. NoneBy j r.history) k (λ r n s phase from who here over g. g) (λ r n is g. (refl, g)) schemas.room w.room k refl said
      (λ s request reached protocol versions plan from says is planned g. g)
      (λ s count from says g. g)
      (λ s sent plan push from says is taken g. (
        other_author j k (λ same.
            let heard = heard_stand schemas w made m j e s channel at (ap session_of asks) (ap (slice_get w.room.sessions) same ∙ from) (ap (slice_get w.channels) same ∙ there) in
            let lives : IsHeard schemas e j (live sent plan) channel.to_room = subst (λ p. IsHeard schemas e j p channel.to_room) is heard in
            absurd (let none : said ∷ messages ≡ [] = sym first ∙ lives.0 asks in cc)),
        g,
      )) replied is (h.none m j e at asks)

  waiting_keep : Keeps schemas AreWaiting
  waiting_keep = record {
    joins = λ w version made h. record {
      idle = each_added Idle w.clients (new_client version) h.idle (λ off. tt);
      none = λ m k c at. each_added (NoneAsks w.room.history) w.clients (new_client version) (λ m c at k. h.none m k c at) (λ k is. absurd (cc)) m c at k;
    };
    rests = λ w n c d made at q h.
        waiting_client w n d (λ off. subst AreIdle (sym q.pending) (h.idle n c at (sym (ap is_open q.connection) ∙ off))) (λ k is. h.none n k c at (sym q.connection ∙ is)) h;
    cuts = λ w n k c made at is h. waiting_client w n (after_cut c) (λ off. idle_edits (pending_diffs c)) (λ j none. absurd (cc)) h;
    acts = λ w n c p made at acts h.
        waiting_pushing w n p (waiting_client w n p.client (act_idle schemas c p acts (h.idle n c at)) (λ k is. h.none n k c at (sym (act_asks schemas c p acts) ∙ is)) h);
    asks = λ w n readonly c made at off place h.
        let next = length w.room.sessions in
        let d : Client = record c { connection = Asking next } in
        let closed_now : is_open c.connection ≡ false = elim c.connection as (λ x. session_of x ≡ None → is_open x ≡ false) [ Off ↦ λ o. refl | Asking k ↦ λ o. absurd (cc) | Open k ↦ λ o. absurd (cc) ] off in
        let fresh = none_next w.room.sessions w.room.history (reachable_names schemas.room lawful.room w.room (room_reached schemas lawful w made)) in
        let now = waiting_client w n d (λ o. h.idle n c at closed_now) (λ k is. (let it : next ≡ k = cc in subst (λ j. NoneBy j w.room.history) it fresh)) h in
        record { idle = now.idle; none = now.none };
    loses = λ w k channel room made at is h. record {
      idle = h.idle;
      none = λ m j e client asks. leave_turns (λ r. NoneBy j r.history) k (λ r n s phase from who here over g. g) (λ r n is g. (refl, g)) w.room room k refl is (λ s from over g. g) (h.none m j e client asks);
    };
    handles = λ w k channel said messages replied made at first is h. record { idle = h.idle; none = waiting_handled w k channel said messages replied made at first is h };
    sends = λ w k channel given made at is h. record { idle = h.idle; none = h.none };
    delivers = λ w n k c channel notice notices made at is there first h.
        let v = with_channel k (record channel { to_client = notices }) w in
        let due = next_due schemas w n k c channel notice notices made at is there first in
        waiting_pushing v n (after_notice w.room.history k c notice)
        (waiting_client v n (after_notice w.room.history k c notice).client (notice_idle w.room.history k c notice due (h.idle n c at))
        (λ j asks. h.none n j c at (notice_asks w.room.history k c notice j asks)) (record { idle = h.idle; none = h.none }));
  }

  pub waiting_stand : (w : World) → ReachableWorld schemas w → AreWaiting w
  waiting_stand w made = everywhere schemas AreWaiting waiting_keep (λ room reached none. record { idle = λ n c at. absurd (cc); none = λ m k c at. absurd (cc) }) w made
