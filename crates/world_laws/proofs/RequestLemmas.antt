-- What the room knows of clients, and what is in flight from one that asks.
use Rattle.std.proofs.Common.{◌≡◌, ◌⊎◌, inl, inr, ℕ, zero, suc, nat_lt, ℤ, Bool, true, false, ◌&&◌, cond, List, [], ◌∷◌, ◌++◌, length, slice_get, slice_set, Option, Some, None, option_map, Ok, refl, sym, ap, subst, ◌∙◌, arith}
use Rattle.std.specs.Prelude.{decimal}
use Rattle.std.specs.Option.{option_map_or}
use Rattle.room_model.specs.Schemas.{WorldSchemas, Plan}
use Rattle.room_model.specs.Histories.{History}
use Rattle.room_model.specs.Closing.{is_closed}
use Rattle.room_model.specs.Reachable.{is_over}
use Rattle.room_model.specs.Rooms.{Phase, new, asked, live, ended, gone, Session, Room, with_session, is_present, close, without_slow, end_slow, after_close, after_drain, Notice, snapshot_at, updates_between, pong, end, Replied, after_message, after_leave}
use Rattle.room_model.specs.Replicas.{Client, new_client, is_open, session_of, Pushing, push_none, push_one, first_unsent, next_push, push_times, with_work, after_end, after_notice, schema_of, plan_of}
use Rattle.room_model.specs.Worlds.{Channel, World, with_client, with_channel, with_pushing, ask}
use Rattle.room_model.specs.declared.connection.Connection.TheVariants.{Asking, Open}
use Rattle.room_model.specs.declared.limits.TheConstants.{MOST_PUSHES, PROTOCOL}
use Rattle.room_model.proofs.ActingLemmas.{differ}
use Rattle.std.proofs.lemmas.Option.{slice_get_within}
use Rattle.room_model.proofs.CallLemmas.{got-set, got-added, pushed_by}
use Rattle.room_model.proofs.ClockLemmas.{is_live, closed_sessions}
use Rattle.room_model.proofs.ClosingLemmas.{set_at_place, by_number}
use Rattle.sync_msgs.specs.declared.client_message.ClientMessage.{ClientMessage}
use Rattle.sync_msgs.specs.declared.client_message.ClientMessage.TheVariants as message
use Rattle.sync_msgs.specs.declared.end_reason.EndReason.{EndReason}
use Rattle.sync_msgs.specs.declared.end_reason.EndReason.TheVariants.{ClientTooOld, ServerTooOld, InvalidRecord, RoomFull, Slow}
use Rattle.world_laws.specs.Reachable.{ReachableWorld}
use Rattle.world_laws.specs.Sessions.{AreSessions}
use Rattle.world_laws.specs.Channels.{IsSentTo, IsSent, AreSent, IsNoPing, AreNoPings}
use Rattle.world_laws.specs.Requests.{request_of, IsHeard, AreHeard}
use Rattle.world_laws.proofs.EventLemmas.{Acts, rests, works, Keeps, everywhere}
use Rattle.world_laws.proofs.PushLemmas.{long-set, got_split, got_old, got_new, answered as opened, snapshot_same, work_same, pushing_keeps}
use Rattle.world_laws.proofs.RoomLemmas.{leaves_ended, leaves_open, leave_leaves, ignores, asks_now, pings, refuses, takes, message_receives, Gives, tells_end, answers, pongs, tells, drain_gives}
use Rattle.world_laws.proofs.SessionLemmas.{sessions_stand, IsLess, notice_less, act_less}
use Rattle.world_laws.proofs.PingLemmas.{pings_stand}
use Rattle.world_laws.proofs.DownLemmas.{sent_stand}
use Rattle.world_laws.proofs.PresenceLemmas.{closed_set, last_over}
use Rattle.world_laws.proofs.TurnLemmas.{IsLast, untold, left, slow_ended, after_closed, leave_turns}

module _ {F : Type 0} (schemas : WorldSchemas F) where
  -- one channel, in any state

  -- nothing is in flight from a client that asks, by a phase that isn't new
  pub asks_none : (c : Client) (k : ℕ) (p : Phase) (ms : List ClientMessage) → (p ≡ new → ⊥) → IsHeard schemas c k p ms → c.connection ≡ Asking k → ms ≡ []
  asks_none c k new ms other h asks = absurd (other refl)
  asks_none c k (asked request reached plan) ms other h asks = h.1
  asks_none c k (live sent plan) ms other h asks = h.0 asks
  asks_none c k (ended reason told) ms other h asks = h asks
  asks_none c k gone ms other h asks = h asks

  -- what the room handles is gone
  popped : (c : Client) (k : ℕ) (p : Phase) (said : ClientMessage) (ms : List ClientMessage) → (p ≡ new → ⊥) → IsHeard schemas c k p (said ∷ ms) → IsHeard schemas c k p ms
  popped c k new said ms other h = absurd (other refl)
  popped c k (asked request reached plan) said ms other h = absurd (let no = h.1 in cc)
  popped c k (live sent plan) said ms other h = (λ asks. absurd (let no = h.0 asks in cc), h.1)
  popped c k (ended reason told) said ms other h = λ asks. absurd (let no = h asks in cc)
  popped c k gone said ms other h = λ asks. absurd (let no = h asks in cc)

  -- all that was in flight is lost
  emptied : (c : Client) (k : ℕ) (p : Phase) → is_over p ≡ true → IsHeard schemas c k p []
  emptied c k new over = absurd (cc)
  emptied c k (asked request reached plan) over = absurd (cc)
  emptied c k (live sent plan) over = absurd (cc)
  emptied c k (ended reason told) over = λ asks. refl
  emptied c k gone over = λ asks. refl

  over_heard : (c : Client) (k : ℕ) (p : Phase) (ms : List ClientMessage) → is_over p ≡ true → (c.connection ≡ Asking k → ms ≡ []) → IsHeard schemas c k p ms
  over_heard c k new ms over h = absurd (cc)
  over_heard c k (asked request reached plan) ms over h = absurd (cc)
  over_heard c k (live sent plan) ms over h = absurd (cc)
  over_heard c k (ended reason told) ms over h = h
  over_heard c k gone ms over h = h

  -- a client as it was, of whose session more is in flight only if it is connected
  append_none : (ms : List ClientMessage) → ms ++ [] ≡ ms
  append_none [] = refl
  append_none (m ∷ ms) = ap (λ r. m ∷ r) (append_none ms)

  more_heard : (c : Client) (k : ℕ) (p : Phase) (ms more : List ClientMessage) → (is_open c.connection ≡ false → more ≡ []) → IsHeard schemas c k p ms → IsHeard schemas c k p (ms ++ more)
  more_heard c k p ms more none h =
      let quiet : is_open c.connection ≡ false → IsHeard schemas c k p (ms ++ more) =
      λ off. subst (λ r. IsHeard schemas c k p (ms ++ r)) (sym (none off)) (subst (IsHeard schemas c k p) (sym (append_none ms)) h) in
      let asks : c.connection ≡ Asking k → ms ++ more ≡ ms = λ is. ap (λ r. ms ++ r) (none (ap is_open is)) ∙ append_none ms in
      elim p as (λ p. (is_open c.connection ≡ false → IsHeard schemas c k p (ms ++ more)) → IsHeard schemas c k p ms → IsHeard schemas c k p (ms ++ more)) [
        | new ↦ λ q h. q (ap is_open h.0)
        | asked request reached plan ↦ λ q h. q (ap is_open h.0)
        | live sent plan ↦ λ q h. (λ is. asks is ∙ h.0 is, h.1)
        | ended reason told ↦ λ q h. λ is. asks is ∙ h is
        | gone ↦ λ q h. λ is. asks is ∙ h is
      ] quiet h

  same_request : (c d : Client) (k : ℕ) → d.reached ≡ c.reached → d.version ≡ c.version → request_of schemas d k ≡ request_of schemas c k
  same_request c d k reached version i = message.Connect (decimal k) (reached i) PROTOCOL (schemas.client (version i)).versions

  same_heard : (c d : Client) (k : ℕ) (p : Phase) (ms : List ClientMessage) → d.connection ≡ c.connection → d.reached ≡ c.reached → d.version ≡ c.version
      → IsHeard schemas c k p ms → IsHeard schemas d k p ms
  same_heard c d k p ms connection reached version h =
      let plan_is : plan_of schemas d ≡ plan_of schemas c = ap (λ v. schemas.room.plan_for (schemas.client v).versions) version in
      elim p as (λ p. IsHeard schemas c k p ms → IsHeard schemas d k p ms) [
        | new ↦ λ h. (connection ∙ h.0, h.1 ∙ ap (λ m. m ∷ []) (sym (same_request c d k reached version)))
        | asked request r plan ↦ λ h. (connection ∙ h.0, h.1, h.2, h.3 ∙ sym reached, plan_is ∙ h.4)
        | live sent plan ↦ λ h. (λ is. h.0 (sym connection ∙ is), plan_is ∙ h.1)
        | ended reason told ↦ λ h. λ is. h (sym connection ∙ is)
        | gone ↦ λ h. λ is. h (sym connection ∙ is)
      ] h

  -- who isn't connected pushes nothing
  none_pushed : (n : ℕ) (c : Client) → is_open c.connection ≡ false → (push_times n c).messages ≡ []
  none_pushed zero c off = refl
  none_pushed (suc n) c off =
      let none : next_push c ≡ None = ap (λ b. cond (b && nat_lt c.pushes MOST_PUSHES) (option_map (push_one c) (first_unsent c.pending)) None) off in
      ap (λ o. (option_map_or (λ one. let more = push_times n one.client in record more { messages = one.messages ++ more.messages }) o (push_none c)).messages) none

  -- a session that is given something
  given_heard : (room : Room) (n : ℕ) (s : Session) (notice : Notice) (after : Session) (c : Client) (k : ℕ) (ms : List ClientMessage) → Gives room n s notice after
      → IsHeard schemas c k s.phase ms → IsHeard schemas c k after.phase ms
  given_heard room n s _ _ c k ms (tells_end reason is) h =
      let e : IsHeard schemas c k (ended reason false) ms = subst (λ p. IsHeard schemas c k p ms) is h in e
  given_heard room n s _ _ c k ms (answers request reached plan is) h =
      let e : IsHeard schemas c k (asked request reached plan) ms = subst (λ p. IsHeard schemas c k p ms) is h in (λ asks. e.1, e.4)
  given_heard room n s _ _ c k ms (pongs some) h = h
  given_heard room n s _ _ c k ms (tells sent plan is less) h =
      let e : IsHeard schemas c k (live sent plan) ms = subst (λ p. IsHeard schemas c k p ms) is h in (e.0, e.1)

-- who is refused or leaves is closed then

pub over_closed : (r : Room) (k : ℕ) (s : Session) → is_closed r k ≡ true → slice_get r.sessions k ≡ Some s → is_over s.phase ≡ true
over_closed r k s closed at = sym (ap (λ o. option_map_or (λ (s : Session). is_over s.phase) o false) at) ∙ closed

pub closed_after : (room : Room) (n : ℕ) (s : Session) (phase : Phase) → slice_get room.sessions n ≡ Some s → IsLast phase → is_closed (after_close n s phase room) n ≡ true
closed_after room n s phase at last =
    let P : Room → Type 0 = λ r. is_closed r n ≡ true in
    let after = close n s phase room in
    let t : Session = record s { phase = phase } in
    let now : P after = ap (λ xs. option_map_or (λ (s : Session). is_over s.phase) (slice_get xs n) false) (closed_sessions n s phase room)
    ∙ ap (λ o. option_map_or (λ (s : Session). is_over s.phase) o false) (set_at_place room.sessions n s t at) ∙ last_over phase last in
    elim (is_present n room) as (λ b. P (cond b (end_slow after) after)) [
      | true ↦ slow_ended P n (λ r j u q there who here over g. closed_set n r j u (record u { phase = q }) there (λ o. last_over q over) g) (λ r j is g. g) (length after.sessions) after now
      | false ↦ now
    ]

pub left_closed : (room after : Room) (n : ℕ) → after_leave room n ≡ Some after → is_closed after n ≡ true
left_closed room after n is =
    let on = leave_leaves room n after is in
    elim on.2 as (λ after l. is_closed after n ≡ true) [
      | leaves_ended over ↦ ap (λ o. option_map_or (λ (s : Session). is_over s.phase) o false) (set_at_place room.sessions n on.0 (record on.0 { phase = gone }) on.1.at)
      | leaves_open here ↦ closed_after room n on.0 gone on.1.at left
    ]

live_not_new : (p : Phase) → is_live p ≡ true → p ≡ new → ⊥
live_not_new p lives is = differ (sym lives ∙ ap is_live is)

over_not_new : (p : Phase) → is_over p ≡ true → p ≡ new → ⊥
over_not_new p over is = differ (sym over ∙ ap is_over is)

-- all channels of a world

module _ {F : Type 0} (schemas : WorldSchemas F) where
  heard_phase : (w : World) (n : ℕ) (s t : Session) → slice_get w.room.sessions n ≡ Some s
      → ((c : Client) (ms : List ClientMessage) → IsHeard schemas c n s.phase ms → IsHeard schemas c n t.phase ms) → AreHeard schemas w → AreHeard schemas (record w { room = with_session n t w.room })
  heard_phase w n s t at turn h m k c u ch client has session channel = elim (got_split w.room.sessions n k t u session) [
    | inl same ↦
        let before : IsHeard schemas c n s.phase ch.to_room = subst (λ j. IsHeard schemas c j s.phase ch.to_room) same.0 (h m k c s ch client has (ap (slice_get w.room.sessions) same.0 ∙ at) channel) in
        subst (λ j. IsHeard schemas c j u.phase ch.to_room) (sym same.0) (subst (λ (v : Session). IsHeard schemas c n v.phase ch.to_room) (sym same.1) (turn c ch.to_room before))
    | inr other ↦ h m k c u ch client has other.1 channel
  ]

  heard_channel : (w : World) (n : ℕ) (before after : Channel) → slice_get w.channels n ≡ Some before → after.to_room ≡ before.to_room → AreHeard schemas w → AreHeard schemas (with_channel n after w)
  heard_channel w n before after at same h m k c s ch client has session channel = elim (got_split w.channels n k after ch channel) [
    | inl it ↦ subst (IsHeard schemas c k s.phase) (sym (ap (λ (x : Channel). x.to_room) it.1 ∙ same)) (h m k c s before client has session (ap (slice_get w.channels) it.0 ∙ at))
    | inr other ↦ h m k c s ch client has session other.1
  ]

  heard_client : (w : World) (n : ℕ) (c d : Client) → slice_get w.clients n ≡ Some c → d.connection ≡ c.connection → d.reached ≡ c.reached → d.version ≡ c.version → AreHeard schemas w → AreHeard schemas (with_client n d w)
  heard_client w n c d at connection reached version h m k e s ch client has session channel = elim (got_split w.clients n m d e client) [
    | inl same ↦
        let e_connection : e.connection ≡ c.connection = ap (λ (x : Client). x.connection) same.1 ∙ connection in
        same_heard schemas c e k s.phase ch.to_room e_connection (ap (λ (x : Client). x.reached) same.1 ∙ reached) (ap (λ (x : Client). x.version) same.1 ∙ version)
        (h m k c s ch (ap (slice_get w.clients) same.0 ∙ at) (sym (ap session_of e_connection) ∙ has) session channel)
    | inr other ↦ h m k e s ch other.1 has session channel
  ]

  -- a client pushes into the channel of its session, where it is connected
  heard_pushing : (w : World) (n : ℕ) (c : Client) (p : Pushing) → AreSessions w → slice_get w.clients n ≡ Some c → IsLess c p.client → (is_open p.client.connection ≡ false → p.messages ≡ [])
      → AreHeard schemas (with_client n p.client w) → AreHeard schemas (with_pushing n p w)
  heard_pushing w n c p stands at less none alone =
      pushing_keeps (AreHeard schemas) w n p alone (λ k channel is there m j e s ch client has session to.
      elim (got_split w.channels k j (record channel { to_room = channel.to_room ++ p.messages }) ch to) [
        | inl it ↦
            let before = alone m j e s channel client has session (ap (slice_get w.channels) it.0 ∙ there) in
            let quiet : is_open e.connection ≡ false → p.messages ≡ [] = elim (got_split w.clients n m p.client e client) [
              | inl same ↦ λ off. none (sym (ap (λ (x : Client). is_open x.connection) same.1) ∙ off)
              | inr away ↦ λ off. absurd (away.0 (stands.apart m n k (record { client = e; made = away.1; has = has ∙ ap Some it.0 }) (record { client = c; made = at; has = less k is })))
            ] in
            subst (λ (x : Channel). IsHeard schemas e j s.phase x.to_room) (sym it.1) (more_heard schemas e j s.phase channel.to_room p.messages quiet before)
        | inr other ↦ alone m j e s ch client has session other.1
      ])

  act_heard : (c : Client) (p : Pushing) → Acts schemas c p → (p.client.connection ≡ c.connection) × (p.client.reached ≡ c.reached) × (p.client.version ≡ c.version) × (is_open p.client.connection ≡ false → p.messages ≡ [])
  act_heard c _ (rests d q) = (q.connection, q.reached, q.version, λ off. refl)
  act_heard c _ (works d work q place rising) =
      let same = work_same d work in
      let e = with_work work d in
      (same.connection ∙ q.connection, same.reached ∙ q.reached, same.version ∙ q.version, λ off. none_pushed schemas (length e.pending) e (sym (ap is_open same.connection) ∙ off))

  -- who asks
  heard_asks : (w : World) (n : ℕ) (readonly : Bool) (c : Client) → AreSessions w → AreHeard schemas w → AreHeard schemas (ask schemas n readonly w c)
  heard_asks w n readonly c stands h m k e s ch client has session channel =
      let next = length w.room.sessions in
      let entering : Session = record { readonly = readonly; pings = 0; phase = new } in
      let asking : Client = record c { connection = Asking next } in
      let long = stands.channels in
      elim (got_split w.clients n m asking e client) [
        | inl same ↦
            let now : Some next ≡ Some k = sym (ap (λ (x : Client). session_of x.connection) same.1) ∙ has in
            let it : next ≡ k = cc in
            let fresh : s ≡ entering = got_new w.room.sessions k entering s (omega arith) session in
            let only = got_new w.channels k (record { to_room = request_of schemas c next ∷ []; to_client = [] }) ch (omega arith) channel in
            subst (λ (x : Client). IsHeard schemas x k s.phase ch.to_room) (sym same.1)
            (subst (λ (x : Session). IsHeard schemas asking k x.phase ch.to_room) (sym fresh)
            (subst (λ (x : Channel). IsHeard schemas asking k new x.to_room) (sym only)
            (subst (λ j. IsHeard schemas asking j new (request_of schemas c next ∷ [])) it (refl, refl))))
        | inr other ↦
            let less = stands.entered m k (record { client = e; made = other.1; has = has }) in
            h m k e s ch other.1 has (got_old w.room.sessions k entering s less session) (got_old w.channels k _ ch (omega arith) channel)
      ]

  -- a client to which something comes
  come_heard : (c d : Client) (k : ℕ) (p : Phase) (notice : Notice) (notices : List Notice) (last : Option ℕ) (ms : List ClientMessage) → IsSentTo p (notice ∷ notices) last
      → d.version ≡ c.version → (d.connection ≡ Asking k → c.connection ≡ Asking k) → IsHeard schemas c k p ms → IsHeard schemas d k p ms
  come_heard c d k new notice notices last ms sent version asks h = absurd (let no = sent.0 in cc)
  come_heard c d k (asked request reached plan) notice notices last ms sent version asks h = absurd (let no = sent.0 in cc)
  come_heard c d k (live at plan) notice notices last ms sent version asks h = (λ is. h.0 (asks is), ap (λ v. schemas.room.plan_for (schemas.client v).versions) version ∙ h.1)
  come_heard c d k (ended reason told) notice notices last ms sent version asks h = λ is. h (asks is)
  come_heard c d k gone notice notices last ms sent version asks h = λ is. h (asks is)

  ended_off : (reason : EndReason) (c : Client) (j : ℕ) → session_of (after_end reason c).connection ≡ Some j → ⊥
  ended_off Slow c j is = absurd (cc)
  ended_off ClientTooOld c j is = absurd (cc)
  ended_off ServerTooOld c j is = absurd (cc)
  ended_off InvalidRecord c j is = absurd (cc)
  ended_off RoomFull c j is = absurd (cc)

  delivered_heard : (history : History) (k : ℕ) (c : Client) (p : Phase) (notice : Notice) (notices : List Notice) (ms : List ClientMessage) → IsSent c p (notice ∷ notices)
      → (j : ℕ) → session_of (after_notice history k c notice).client.connection ≡ Some j → IsHeard schemas c k p ms → IsHeard schemas (after_notice history k c notice).client k p ms
  delivered_heard history k c p (snapshot_at clock) notices ms sent j on h =
      let same = snapshot_same k clock c in
      come_heard c (after_notice history k c (snapshot_at clock)).client k p (snapshot_at clock) notices sent.last ms sent.sent same.version
      (λ is. absurd (let e : Open k ≡ Asking k = sym same.connection ∙ is in cc)) h
  delivered_heard history k c p (updates_between from to) notices ms sent j on h =
      come_heard c (after_notice history k c (updates_between from to)).client k p (updates_between from to) notices sent.last ms sent.sent refl (λ is. is) h
  delivered_heard history k c p pong notices ms sent j on h = h
  delivered_heard history k c p (end reason) notices ms sent j on h = absurd (ended_off reason c j on)

  notice_quiet : (history : History) (k : ℕ) (c : Client) (notice : Notice) → is_open (after_notice history k c notice).client.connection ≡ false → (after_notice history k c notice).messages ≡ []
  notice_quiet history k c (snapshot_at clock) off =
      none_pushed schemas (length (opened k clock c).pending) (opened k clock c) (sym (ap is_open (snapshot_same k clock c).connection) ∙ off)
  notice_quiet history k c (updates_between from to) off = refl
  notice_quiet history k c pong off = refl
  notice_quiet history k c (end reason) off = refl

  heard_delivery : (w : World) (n k : ℕ) (c : Client) (channel : Channel) (notice : Notice) (notices : List Notice) → AreSessions w → AreSent w → slice_get w.clients n ≡ Some c
      → session_of c.connection ≡ Some k → slice_get w.channels k ≡ Some channel → channel.to_client ≡ notice ∷ notices → AreHeard schemas w
      → AreHeard schemas (with_client n (after_notice w.room.history k c notice).client (with_channel k (record channel { to_client = notices }) w))
  heard_delivery w n k c channel notice notices stands sent at has there first h m j e s ch client is session to =
      let after = (after_notice w.room.history k c notice).client in
      let now = heard_channel w k channel (record channel { to_client = notices }) there refl h in
      elim (got_split w.clients n m after e client) [
        | inl same ↦
            let on : session_of after.connection ≡ Some j = sym (ap (λ (x : Client). session_of x.connection) same.1) ∙ is in
            let before : session_of c.connection ≡ Some j = notice_less w.room.history k c notice has j on in
            let some : Some k ≡ Some j = sym has ∙ before in
            let it : k ≡ j = cc in
            let heard : IsHeard schemas c j s.phase ch.to_room = now n j c s ch at before session to in
            let is_sent : IsSent c s.phase (notice ∷ notices) =
            subst (IsSent c s.phase) first (sent n k c s channel at has (ap (slice_get w.room.sessions) it ∙ session) there) in
            subst (λ (x : Client). IsHeard schemas x j s.phase ch.to_room) (sym same.1)
            (subst (λ i. IsHeard schemas after i s.phase ch.to_room) it
            (delivered_heard w.room.history k c s.phase notice notices ch.to_room is_sent j on (subst (λ i. IsHeard schemas c i s.phase ch.to_room) (sym it) heard)))
        | inr away ↦ now m j e s ch away.1 is session to
      ]

  -- what is known while the message of a session is handled, or the session leaves: of that session less
  abbrev Between : World → ℕ → Room → Type 0
  Between w k r =
      (m j : ℕ) (e : Client) (s : Session) (ch : Channel) → slice_get w.clients m ≡ Some e → session_of e.connection ≡ Some j → slice_get r.sessions j ≡ Some s
      → slice_get w.channels j ≡ Some ch → (j ≡ k → e.connection ≡ Asking j → ch.to_room ≡ []) × ((j ≡ k → ⊥) → IsHeard schemas e j s.phase ch.to_room)

  between_closes : (w : World) (k : ℕ) (r : Room) (n : ℕ) (s : Session) (phase : Phase) → slice_get r.sessions n ≡ Some s → (n ≡ k) ⊎ (is_live s.phase ≡ true) → IsLast phase → Between w k r
      → Between w k (with_session n (record s { phase = phase }) r)
  between_closes w k r n s phase at who last g m j e u ch client has session channel = elim (got_split r.sessions n j (record s { phase = phase }) u session) [
    | inl same ↦
        let before = g m j e s ch client has (ap (slice_get r.sessions) same.0 ∙ at) channel in (
          before.0,
          λ apart. subst (λ (x : Session). IsHeard schemas e j x.phase ch.to_room) (sym same.1) (over_heard schemas e j phase ch.to_room (last_over phase last) (elim who [
            | inl mine ↦ absurd (apart (same.0 ∙ mine))
            | inr lives ↦ asks_none schemas e j s.phase ch.to_room (live_not_new s.phase lives) (before.1 apart)
          ])),
        )
    | inr other ↦ g m j e u ch client has other.1 channel
  ]

  -- all is known again once the session is closed
  between_closed : (w : World) (k : ℕ) (r : Room) → is_closed r k ≡ true → Between w k r → AreHeard schemas (record w { room = r })
  between_closed w k r closed g m j e s ch client has session channel =
      let on = g m j e s ch client has session channel in
      by_number (λ b. IsHeard schemas e j s.phase ch.to_room) j k
      (λ same. over_heard schemas e j s.phase ch.to_room (over_closed r k s closed (ap (slice_get r.sessions) (sym same) ∙ session)) (on.0 same))
      on.1

  between_begins : (w : World) (k : ℕ) (before after : Channel) → slice_get w.channels k ≡ Some before
      → ((m : ℕ) (e : Client) (s : Session) → slice_get w.clients m ≡ Some e → session_of e.connection ≡ Some k → slice_get w.room.sessions k ≡ Some s → e.connection ≡ Asking k → after.to_room ≡ [])
      → AreHeard schemas w → Between (with_channel k after w) k w.room
  between_begins w k before after at none h m j e s ch client has session channel = elim (got_split w.channels k j after ch channel) [
    | inl it ↦ (
      λ same asks. ap (λ (x : Channel). x.to_room) it.1 ∙ none m e s client (subst (λ i. session_of e.connection ≡ Some i) same has) (subst (λ i. slice_get w.room.sessions i ≡ Some s) same session) (subst (λ i. e.connection ≡ Asking i) same asks),
      λ apart. absurd (apart it.0),
    )
    | inr other ↦ (λ same. absurd (other.0 same), λ apart. h m j e s ch client has session other.1)
  ]

  -- a message is gone from a channel whose session isn't new
  heard_popped : (w : World) (k : ℕ) (s : Session) (channel : Channel) (said : ClientMessage) (messages : List ClientMessage) → slice_get w.room.sessions k ≡ Some s → slice_get w.channels k ≡ Some channel
      → channel.to_room ≡ said ∷ messages → (s.phase ≡ new → ⊥) → AreHeard schemas w → AreHeard schemas (with_channel k (record channel { to_room = messages }) w)
  heard_popped w k s channel said messages at there first other h m j e u ch client has session to = elim (got_split w.channels k j (record channel { to_room = messages }) ch to) [
    | inl it ↦
        let some : Some u ≡ Some s = sym session ∙ ap (slice_get w.room.sessions) it.0 ∙ at in
        let same : u ≡ s = cc in
        let before : IsHeard schemas e j u.phase (said ∷ messages) = subst (IsHeard schemas e j u.phase) first (h m j e u channel client has session (ap (slice_get w.channels) it.0 ∙ there)) in
        subst (λ (x : Channel). IsHeard schemas e j u.phase x.to_room) (sym it.1)
        (popped schemas e j u.phase said messages (λ is. other (sym (ap (λ (x : Session). x.phase) same) ∙ is)) before)
    | inr away ↦ h m j e u ch client has session away.1
  ]

  tail_none : (e : Client) (k : ℕ) (p : Phase) (said : ClientMessage) (ms : List ClientMessage) → IsHeard schemas e k p (said ∷ ms) → e.connection ≡ Asking k → ms ≡ []
  tail_none e k new said ms h asks = let is = h.1 in cc
  tail_none e k (asked request reached plan) said ms h asks = absurd (let no = h.1 in cc)
  tail_none e k (live sent plan) said ms h asks = absurd (let no = h.0 asks in cc)
  tail_none e k (ended reason told) said ms h asks = absurd (let no = h asks in cc)
  tail_none e k gone said ms h asks = absurd (let no = h asks in cc)

  -- a request becomes what the session has asked
  request_asked : (e : Client) (k : ℕ) (ms : List ClientMessage) (said : ClientMessage) (request : List ℕ) (reached protocol : ℤ) (versions : _) (plan : Plan) → IsHeard schemas e k new (said ∷ ms)
      → said ≡ message.Connect request reached protocol versions → schemas.room.plan_for versions ≡ Ok plan → IsHeard schemas e k (asked request reached plan) ms
  request_asked e k ms said request reached protocol versions plan h says planned =
      let is : said ∷ ms ≡ request_of schemas e k ∷ [] = h.1 in
      let none : ms ≡ [] = cc in
      let it : message.Connect request reached protocol versions ≡ message.Connect (decimal k) e.reached PROTOCOL (schema_of schemas e).versions = cc in
      let r : request ≡ decimal k = cc in
      let c : reached ≡ e.reached = cc in
      let v : versions ≡ (schema_of schemas e).versions = cc in
      (h.0, none, r, c, ap schemas.room.plan_for (sym v) ∙ planned)

  heard_asked : (w : World) (k : ℕ) (s : Session) (channel : Channel) (said : ClientMessage) (messages : List ClientMessage) (request : List ℕ) (reached protocol : ℤ) (versions : _) (plan : Plan)
      → slice_get w.room.sessions k ≡ Some s → slice_get w.channels k ≡ Some channel → channel.to_room ≡ said ∷ messages → s.phase ≡ new
      → said ≡ message.Connect request reached protocol versions → schemas.room.plan_for versions ≡ Ok plan → AreHeard schemas w
      → AreHeard schemas (record w { room = with_session k (record s { phase = asked request reached plan }) w.room; channels = slice_set w.channels k (record channel { to_room = messages }) })
  heard_asked w k s channel said messages request reached protocol versions plan at there first is says planned h m j e u ch client has session to =
      let t : Session = record s { phase = asked request reached plan } in
      elim (got_split w.room.sessions k j t u session) [
        | inl same ↦ elim (got_split w.channels k j (record channel { to_room = messages }) ch to) [
          | inl it ↦
              let before : IsHeard schemas e j new (said ∷ messages) =
              subst (λ p. IsHeard schemas e j p (said ∷ messages)) is
              (subst (IsHeard schemas e j s.phase) first (h m j e s channel client has (ap (slice_get w.room.sessions) same.0 ∙ at) (ap (slice_get w.channels) it.0 ∙ there))) in
              subst (λ (x : Session). IsHeard schemas e j x.phase ch.to_room) (sym same.1)
              (subst (λ (x : Channel). IsHeard schemas e j (asked request reached plan) x.to_room) (sym it.1)
              (request_asked e j messages said request reached protocol versions plan before says planned))
          | inr away ↦ absurd (away.0 same.0)
        ]
        | inr other ↦ elim (got_split w.channels k j (record channel { to_room = messages }) ch to) [
          | inl it ↦ absurd (other.0 it.0)
          | inr away ↦ h m j e u ch client has other.1 away.1
        ]
      ]

  -- sessions that are too slow are ended
  heard_slow : (w : World) (n : ℕ) (r : Room) → length r.sessions ≡ length w.room.sessions → AreHeard schemas (record w { room = r }) → AreHeard schemas (record w { room = without_slow n r })
  heard_slow w n r long h =
      let P : Room → Type 0 = λ r. (length r.sessions ≡ length w.room.sessions) × AreHeard schemas (record w { room = r }) in
      (slow_ended P (length w.room.sessions) (λ r j s phase at who here over g.
      let lives : s.phase ≡ new → ⊥ = elim who [
        | inl out ↦ λ is. absurd (let less = slice_get_within r.sessions j s at in let same = g.0 in omega arith)
        | inr on ↦ live_not_new s.phase on
      ] in (
        long-set r.sessions j (record s { phase = phase }) ∙ g.0,
        heard_phase (record w { room = r }) j s (record s { phase = phase }) at (λ c ms i. over_heard schemas c j phase ms (last_over phase over) (asks_none schemas c j s.phase ms lives i)) g.1,
      ))
      (λ r j is g. (g.0, g.1)) n r (long, h)).1

  heard_handled : (w : World) (k : ℕ) (channel : Channel) (said : ClientMessage) (messages : List ClientMessage) (replied : Replied) → IsNoPing said → slice_get w.channels k ≡ Some channel
      → channel.to_room ≡ said ∷ messages → after_message schemas.room w.room k said ≡ Some replied → AreHeard schemas w
      → AreHeard schemas (with_channel k (record channel { to_room = messages }) (record w { room = replied.room }))
  heard_handled w k channel said messages replied no_ping there first is h =
      let on = message_receives schemas.room w.room k said replied is in
      let s = on.0 in
      let at = on.1.at in
      let v = with_channel k (record channel { to_room = messages }) w in
      elim on.2 as (λ after r. AreHeard schemas (record v { room = after })) [
        | ignores over ↦ heard_popped w k s channel said messages at there first (over_not_new s.phase over) h
        | asks_now request reached protocol versions plan says is planned ↦ heard_asked w k s channel said messages request reached protocol versions plan at there first is says planned h
        | pings count says here ↦ absurd (subst IsNoPing says no_ping)
        | refuses reason here ↦
            between_closed v k (after_close k s (ended reason false) w.room) (closed_after w.room k s (ended reason false) at (untold reason))
            (after_closed (Between v k) k (λ r j u phase from who open_now over g. between_closes v k r j u phase from who over g) (λ r j is g. g) w.room k s (ended reason false) refl at here (untold reason)
            (between_begins w k channel (record channel { to_room = messages }) there
            (λ m e u client has session asks.
            tail_none e k u.phase said messages (subst (IsHeard schemas e k u.phase) first (h m k e u channel client has session there)) asks) h))
        | takes sent plan push says is taken ↦
            let now : Room = record w.room { history = pushed_by schemas.room w.room k s plan push ∷ w.room.history } in
            heard_slow v (length now.sessions) now refl
            (heard_popped w k s channel said messages at there first (λ fresh. absurd (let e : live sent plan ≡ new = sym is ∙ fresh in cc)) h)
      ]

  heard_lost : (w : World) (k : ℕ) (channel : Channel) (room : Room) → slice_get w.channels k ≡ Some channel → after_leave w.room k ≡ Some room → AreHeard schemas w
      → AreHeard schemas (with_channel k (record channel { to_room = [] }) (record w { room = room }))
  heard_lost w k channel room there is h =
      let v = with_channel k (record channel { to_room = [] }) w in
      between_closed v k room (left_closed w.room room k is)
      (leave_turns (Between v k) k (λ r j u phase from who here over g. between_closes v k r j u phase from who over g) (λ r j is g. g) w.room room k refl is
      (λ s at over g. between_closes v k w.room k s gone at (inl refl) left g)
      (between_begins w k channel (record channel { to_room = [] }) there (λ m e u client has session asks. refl) h))

  heard_keep : Keeps schemas (AreHeard schemas)
  heard_keep = record {
    joins = λ w version made h m k c s ch client has session channel. elim (got-added w.clients m (new_client version) c client) [
      | inl same ↦ absurd (let none : None ≡ Some k = sym (ap (λ (x : Client). session_of x.connection) same) ∙ has in cc)
      | inr before ↦ h m k c s ch before has session channel
    ];
    rests = λ w n c d made at q h. heard_client w n c d at q.connection q.reached q.version h;
    cuts = λ w n j c made at is h m k e s ch client has session channel. elim (got-set w.clients n m _ e client) [
      | inl same ↦ absurd (let none : None ≡ Some k = sym (ap (λ (x : Client). session_of x.connection) same.1) ∙ has in cc)
      | inr before ↦ h m k e s ch before has session channel
    ];
    acts = λ w n c p made at acts h.
        let same = act_heard c p acts in
        heard_pushing w n c p (sessions_stand schemas w made) at (act_less schemas c p acts) same.3 (heard_client w n c p.client at same.0 same.1 same.2 h);
    asks = λ w n readonly c made at off place h. heard_asks w n readonly c (sessions_stand schemas w made) h;
    loses = λ w k channel room made at is h. heard_lost w k channel room at is h;
    handles = λ w k channel said messages replied made at first is h.
        heard_handled w k channel said messages replied (subst AreNoPings first ((pings_stand schemas w made).none_sent k channel at)).0 at first is h;
    sends = λ w k channel given made at is h.
        let on = drain_gives schemas.room w.room k given is in
        heard_channel (record w { room = after_drain w.room k given }) k channel _ at refl
        (heard_phase w k on.0 given.after on.1.at (λ c ms i. given_heard schemas w.room k on.0 given.notice given.after c k ms on.2 i) h);
    delivers = λ w n k c channel notice notices made at is there first h.
        let v = with_channel k (record channel { to_client = notices }) w in
        heard_pushing v n c (after_notice w.room.history k c notice)
        (record {
          channels = long-set w.channels k (record channel { to_client = notices }) ∙ (sessions_stand schemas w made).channels;
          entered = λ m j on. (sessions_stand schemas w made).entered m j (record { client = on.client; made = on.made; has = on.has });
          apart = λ m o j on other. (sessions_stand schemas w made).apart m o j (record { client = on.client; made = on.made; has = on.has }) (record { client = other.client; made = other.made; has = other.has });
        })
        at (notice_less w.room.history k c notice is) (notice_quiet w.room.history k c notice)
        (heard_delivery w n k c channel notice notices (sessions_stand schemas w made) (sent_stand schemas w made) at is there first h);
  }

  pub heard_stand : (w : World) → ReachableWorld schemas w → AreHeard schemas w
  heard_stand w made = everywhere schemas (AreHeard schemas) heard_keep (λ room reached none m k c s ch client has session channel. absurd (cc)) w made
