-- What is in flight to clients.
use Rattle.std.proofs.Common.{◌≡◌, inl, inr, ℕ, ◌<◌, ℤ, pos, Bool, true, false, List, [], ◌∷◌, ◌++◌, length, slice_get, Option, Some, None, refl, sym, ap, subst, ◌∙◌, arith}
use Rattle.room_model.specs.Schemas.{WorldSchemas, Plan}
use Rattle.room_model.specs.Histories.{History}
use Rattle.room_model.specs.Reachable.{is_over}
use Rattle.room_model.specs.Rooms.{Phase, new, asked, live, ended, gone, Session, Room, Notice, snapshot_at, updates_between, pong, end, with_session}
use Rattle.room_model.specs.Replicas.{Client, new_client, session_of, Pushing, after_end, after_notice}
use Rattle.room_model.specs.Worlds.{Channel, World, with_client, with_channel, with_pushing, ask}
use Rattle.room_model.specs.declared.connection.Connection.{Connection}
use Rattle.room_model.specs.declared.connection.Connection.TheVariants.{Off, Asking, Open}
use Rattle.room_model.proofs.CallLemmas.{got-set, got-added}
use Rattle.sync_msgs.specs.declared.end_reason.EndReason.{EndReason}
use Rattle.sync_msgs.specs.declared.end_reason.EndReason.TheVariants.{ClientTooOld, ServerTooOld, InvalidRecord, RoomFull, Slow}
use Rattle.world_laws.specs.Reachable.{ReachableWorld}
use Rattle.world_laws.specs.Sessions.{AreSessions}
use Rattle.world_laws.specs.Channels.{Lead, IsAt, IsSentTo, HasNoEnd, HasEndLast, IsEndedBy, IsSent, AreSent, IsNoPing, AreNoPings}
use Rattle.world_laws.proofs.EventLemmas.{Acts, rests, works, Keeps, everywhere}
use Rattle.world_laws.proofs.PushLemmas.{got_split, got_old, got_new, snapshot_same, work_same, pushing_keeps}
use Rattle.world_laws.proofs.RoomLemmas.{Gives, tells_end, answers, pongs, tells, drain_gives}
use Rattle.world_laws.proofs.SessionLemmas.{sessions_stand, notice_less}
use Rattle.world_laws.proofs.PingLemmas.{pings_stand}
use Rattle.world_laws.proofs.TurnLemmas.{IsLast, untold, left, leave_turns, message_turns}

-- one channel, in any state

no_end_last : (notices : List Notice) → HasNoEnd notices → HasEndLast notices
no_end_last [] h = tt
no_end_last (snapshot_at clock ∷ notices) h = no_end_last notices h
no_end_last (updates_between from to ∷ notices) h = no_end_last notices h
no_end_last (pong ∷ notices) h = no_end_last notices h
no_end_last (end reason ∷ notices) h = absurd h

end_added : (notices : List Notice) (reason : EndReason) → HasNoEnd notices → HasEndLast (notices ++ end reason ∷ [])
end_added [] reason h = refl
end_added (snapshot_at clock ∷ notices) reason h = end_added notices reason h
end_added (updates_between from to ∷ notices) reason h = end_added notices reason h
end_added (pong ∷ notices) reason h = end_added notices reason h
end_added (end r ∷ notices) reason h = absurd h

updates_added : (notices : List Notice) (from to : ℕ) → HasNoEnd notices → HasNoEnd (notices ++ updates_between from to ∷ [])
updates_added [] from to h = tt
updates_added (snapshot_at clock ∷ notices) from to h = updates_added notices from to h
updates_added (updates_between a b ∷ notices) from to h = updates_added notices from to h
updates_added (pong ∷ notices) from to h = updates_added notices from to h
updates_added (end r ∷ notices) from to h = absurd h

-- a session's end leads no further
lead_end : (place : Option ℕ) (notices : List Notice) (last : Option ℕ) (reason : EndReason) → Lead place notices last → Lead place (notices ++ end reason ∷ []) last
lead_end None [] last reason h = h
lead_end (Some c) [] last reason h = h
lead_end None (snapshot_at clock ∷ notices) last reason h = lead_end (Some clock) notices last reason h
lead_end (Some c) (snapshot_at clock ∷ notices) last reason h = absurd h
lead_end None (updates_between from to ∷ notices) last reason h = absurd h
lead_end (Some c) (updates_between from to ∷ notices) last reason h = (h.0, h.1, lead_end (Some to) notices last reason h.2)
lead_end None (pong ∷ notices) last reason h = lead_end None notices last reason h
lead_end (Some c) (pong ∷ notices) last reason h = lead_end (Some c) notices last reason h
lead_end None (end r ∷ notices) last reason h = lead_end None notices last reason h
lead_end (Some c) (end r ∷ notices) last reason h = lead_end (Some c) notices last reason h

-- what changed leads from where the notices before it lead
lead_updates : (place : Option ℕ) (notices : List Notice) (sent to : ℕ) → sent < to → Lead place notices (Some sent) → Lead place (notices ++ updates_between sent to ∷ []) (Some to)
lead_updates None [] sent to less h = absurd (cc)
lead_updates (Some c) [] sent to less h = let same : c ≡ sent = cc in (sym same, less, refl)
lead_updates None (snapshot_at clock ∷ notices) sent to less h = lead_updates (Some clock) notices sent to less h
lead_updates (Some c) (snapshot_at clock ∷ notices) sent to less h = absurd h
lead_updates None (updates_between from t ∷ notices) sent to less h = absurd h
lead_updates (Some c) (updates_between from t ∷ notices) sent to less h = (h.0, h.1, lead_updates (Some t) notices sent to less h.2)
lead_updates None (pong ∷ notices) sent to less h = lead_updates None notices sent to less h
lead_updates (Some c) (pong ∷ notices) sent to less h = lead_updates (Some c) notices sent to less h
lead_updates None (end r ∷ notices) sent to less h = lead_updates None notices sent to less h
lead_updates (Some c) (end r ∷ notices) sent to less h = lead_updates (Some c) notices sent to less h

-- a session that comes into a last phase
closed_sent : (c : Client) (p q : Phase) (notices : List Notice) → is_over p ≡ false → IsLast q → IsSent c p notices → IsSent c q notices
closed_sent c p q notices here over h =
    let none : HasNoEnd notices = elim p as (λ p. is_over p ≡ false → IsEndedBy p notices → HasNoEnd notices) [
      | new ↦ λ here ends. ends
      | asked request reached plan ↦ λ here ends. ends
      | live sent plan ↦ λ here ends. ends
      | ended reason told ↦ λ here ends. absurd (cc)
      | gone ↦ λ here ends. absurd (cc)
    ] here h.ends in
    elim over as (λ q o. IsSent c q notices) [
      | untold reason ↦ record { place = h.place; last = h.last; at = h.at; leads = h.leads; sent = tt; ends = none }
      | left ↦ record { place = h.place; last = h.last; at = h.at; leads = h.leads; sent = tt; ends = no_end_last notices none }
    ]

left_sent : (c : Client) (p : Phase) (notices : List Notice) → is_over p ≡ true → IsSent c p notices → IsSent c gone notices
left_sent c p notices over h =
    let last : HasEndLast notices = elim p as (λ p. is_over p ≡ true → IsEndedBy p notices → HasEndLast notices) [
      | new ↦ λ over ends. absurd (cc)
      | asked request reached plan ↦ λ over ends. absurd (cc)
      | live sent plan ↦ λ over ends. absurd (cc)
      | ended reason told ↦ λ over ends. elim told as (λ b. IsEndedBy (ended reason b) notices → HasEndLast notices) [ true ↦ λ e. e | false ↦ λ e. no_end_last notices e ] ends
      | gone ↦ λ over ends. ends
    ] over h.ends in
    record { place = h.place; last = h.last; at = h.at; leads = h.leads; sent = tt; ends = last }

asked_sent : (c : Client) (p : Phase) (request : List ℕ) (reached : ℤ) (plan : Plan) (notices : List Notice) → p ≡ new → IsSent c p notices → IsSent c (asked request reached plan) notices
asked_sent c p request reached plan notices is h =
    let e : IsSent c new notices = subst (λ q. IsSent c q notices) is h in
    record { place = e.place; last = e.last; at = e.at; leads = e.leads; sent = e.sent; ends = e.ends }

-- what a drain adds at the end
given_sent : (room : Room) (n : ℕ) (s : Session) (notice : Notice) (after : Session) (c : Client) (notices : List Notice) → Gives room n s notice after → s.pings ≡ 0
    → IsSent c s.phase notices → IsSent c after.phase (notices ++ notice ∷ [])
given_sent room n s _ _ c notices (tells_end reason is) none h =
    let e : IsSent c (ended reason false) notices = subst (λ q. IsSent c q notices) is h in
    record { place = e.place; last = e.last; at = e.at; leads = lead_end e.place notices e.last reason e.leads; sent = tt; ends = end_added notices reason e.ends }
given_sent room n s _ _ c notices (answers request reached plan is) none h =
    let clock = length room.history in
    let e : IsSent c (asked request reached plan) notices = subst (λ q. IsSent c q notices) is h in
    let before : Lead e.place [] None = subst (λ l. Lead e.place [] l) e.sent.1 (subst (λ ns. Lead e.place ns e.last) e.sent.0 e.leads) in
    let start : e.place ≡ None = elim e.place as (λ o. Lead o [] None → o ≡ None) [ None ↦ λ l. refl | Some c ↦ λ l. l ] before in
    record {
      place = e.place;
      last = Some clock;
      at = e.at;
      leads = subst (λ o. Lead o (notices ++ snapshot_at clock ∷ []) (Some clock)) (sym start) (subst (λ ns. Lead None (ns ++ snapshot_at clock ∷ []) (Some clock)) (sym e.sent.0) refl);
      sent = refl;
      ends = subst (λ ns. HasNoEnd (ns ++ snapshot_at clock ∷ [])) (sym e.sent.0) tt;
    }
given_sent room n s _ _ c notices (pongs some) none h = absurd (omega arith)
given_sent room n s _ _ c notices (tells sent plan is less) none h =
    let clock = length room.history in
    let e : IsSent c (live sent plan) notices = subst (λ q. IsSent c q notices) is h in
    record {
      place = e.place;
      last = Some clock;
      at = e.at;
      leads = lead_updates e.place notices sent clock less (subst (λ l. Lead e.place notices l) e.sent e.leads);
      sent = refl;
      ends = updates_added notices sent clock e.ends;
    }

-- what a delivery takes from the front
sent_later : (p : Phase) (notice : Notice) (notices : List Notice) (last : Option ℕ) → IsSentTo p (notice ∷ notices) last → IsSentTo p notices last
sent_later new notice notices last h = absurd (let no = h.0 in cc)
sent_later (asked request reached plan) notice notices last h = absurd (let no = h.0 in cc)
sent_later (live sent plan) notice notices last h = h
sent_later (ended reason told) notice notices last h = tt
sent_later gone notice notices last h = tt

no_end_later : (notice : Notice) (notices : List Notice) → HasNoEnd (notice ∷ notices) → HasNoEnd notices
no_end_later (snapshot_at clock) notices h = h
no_end_later (updates_between from to) notices h = h
no_end_later pong notices h = h
no_end_later (end reason) notices h = absurd h

end_last_later : (notice : Notice) (notices : List Notice) → HasEndLast (notice ∷ notices) → HasEndLast notices
end_last_later (snapshot_at clock) notices h = h
end_last_later (updates_between from to) notices h = h
end_last_later pong notices h = h
end_last_later (end reason) notices h = subst HasEndLast (sym h) tt

ends_later : (p : Phase) (notice : Notice) (notices : List Notice) → IsEndedBy p (notice ∷ notices) → IsEndedBy p notices
ends_later new notice notices h = no_end_later notice notices h
ends_later (asked request reached plan) notice notices h = no_end_later notice notices h
ends_later (live sent plan) notice notices h = no_end_later notice notices h
ends_later (ended reason true) notice notices h = end_last_later notice notices h
ends_later (ended reason false) notice notices h = no_end_later notice notices h
ends_later gone notice notices h = end_last_later notice notices h

lead_snapshot : (place : Option ℕ) (clock : ℕ) (notices : List Notice) (last : Option ℕ) → Lead place (snapshot_at clock ∷ notices) last → Lead (Some clock) notices last
lead_snapshot None clock notices last h = h
lead_snapshot (Some c) clock notices last h = absurd h

lead_pong : (place : Option ℕ) (notices : List Notice) (last : Option ℕ) → Lead place (pong ∷ notices) last → Lead place notices last
lead_pong None notices last h = h
lead_pong (Some c) notices last h = h

-- a client that hears of what changed is connected, at the clock where that begins
lead_open : (place : Option ℕ) (from to : ℕ) (notices : List Notice) (last : Option ℕ) → Lead place (updates_between from to ∷ notices) last → (place ≡ Some from) × Lead (Some to) notices last
lead_open None from to notices last h = absurd h
lead_open (Some c) from to notices last h = (ap Some (sym h.0), h.2)

at_open : (connection : Connection) (k : ℕ) (reached : ℤ) (from to : ℕ) → session_of connection ≡ Some k → IsAt connection reached (Some from) → IsAt connection (pos to) (Some to)
at_open Off k reached from to has h = tt
at_open (Asking j) k reached from to has h = absurd (cc)
at_open (Open j) k reached from to has h = (to, refl, refl)

delivered_sent : (history : History) (k : ℕ) (c : Client) (p : Phase) (notice : Notice) (notices : List Notice) → session_of c.connection ≡ Some k → IsSent c p (notice ∷ notices)
    → (j : ℕ) → session_of (after_notice history k c notice).client.connection ≡ Some j → IsSent (after_notice history k c notice).client p notices
delivered_sent history k c p (snapshot_at clock) notices has h j on =
    let same = snapshot_same k clock c in
    record {
      place = Some clock;
      last = h.last;
      at = subst (λ x. IsAt x (after_notice history k c (snapshot_at clock)).client.reached (Some clock)) (sym same.connection) (clock, same.reached, refl);
      leads = lead_snapshot h.place clock notices h.last h.leads;
      sent = sent_later p (snapshot_at clock) notices h.last h.sent;
      ends = ends_later p (snapshot_at clock) notices h.ends;
    }
delivered_sent history k c p (updates_between from to) notices has h j on =
    let open_at = lead_open h.place from to notices h.last h.leads in
    record {
      place = Some to;
      last = h.last;
      at = at_open c.connection k c.reached from to has (subst (IsAt c.connection c.reached) open_at.0 h.at);
      leads = open_at.1;
      sent = sent_later p (updates_between from to) notices h.last h.sent;
      ends = ends_later p (updates_between from to) notices h.ends;
    }
delivered_sent history k c p pong notices has h j on =
    record { place = h.place; last = h.last; at = h.at; leads = lead_pong h.place notices h.last h.leads; sent = sent_later p pong notices h.last h.sent; ends = ends_later p pong notices h.ends }
delivered_sent history k c p (end reason) notices has h j on = absurd (
    elim reason as (λ r. session_of (after_end r c).connection ≡ Some j → ⊥) [
      | Slow ↦ λ is. absurd (cc)
      | ClientTooOld ↦ λ is. absurd (cc)
      | ServerTooOld ↦ λ is. absurd (cc)
      | InvalidRecord ↦ λ is. absurd (cc)
      | RoomFull ↦ λ is. absurd (cc)
    ] on
    )

-- a client with the same connection and clock
same_sent : (c d : Client) (p : Phase) (notices : List Notice) → d.connection ≡ c.connection → d.reached ≡ c.reached → IsSent c p notices → IsSent d p notices
same_sent c d p notices connection reached h = record {
  place = h.place;
  last = h.last;
  at = subst (λ x. IsAt x d.reached h.place) (sym connection) (subst (λ r. IsAt c.connection r h.place) (sym reached) h.at);
  leads = h.leads;
  sent = h.sent;
  ends = h.ends;
}

-- all channels of a world

phase_set : (w : World) (n : ℕ) (s t : Session) → slice_get w.room.sessions n ≡ Some s
    → ((c : Client) (notices : List Notice) → IsSent c s.phase notices → IsSent c t.phase notices) → AreSent w → AreSent (record w { room = with_session n t w.room })
phase_set w n s t at turn h m k c u ch client has session channel = elim (got_split w.room.sessions n k t u session) [
  | inl same ↦ subst (λ (v : Session). IsSent c v.phase ch.to_client) (sym same.1) (turn c ch.to_client (h m k c s ch client has (ap (slice_get w.room.sessions) same.0 ∙ at) channel))
  | inr other ↦ h m k c u ch client has other.1 channel
]

channel_set : (w : World) (n : ℕ) (before after : Channel) → slice_get w.channels n ≡ Some before → after.to_client ≡ before.to_client → AreSent w → AreSent (with_channel n after w)
channel_set w n before after at same h m k c s ch client has session channel = elim (got_split w.channels n k after ch channel) [
  | inl it ↦ subst (λ ns. IsSent c s.phase ns) (sym (ap (λ (x : Channel). x.to_client) it.1 ∙ same)) (h m k c s before client has session (ap (slice_get w.channels) it.0 ∙ at))
  | inr other ↦ h m k c s ch client has session other.1
]

client_set : (w : World) (n : ℕ) (c d : Client) → slice_get w.clients n ≡ Some c → d.connection ≡ c.connection → d.reached ≡ c.reached → AreSent w → AreSent (with_client n d w)
client_set w n c d at connection reached h m k e s ch client has session channel = elim (got_split w.clients n m d e client) [
  | inl same ↦
      let e_connection : e.connection ≡ c.connection = ap (λ (x : Client). x.connection) same.1 ∙ connection in
      let e_reached : e.reached ≡ c.reached = ap (λ (x : Client). x.reached) same.1 ∙ reached in
      same_sent c e s.phase ch.to_client e_connection e_reached
      (h m k c s ch (ap (slice_get w.clients) same.0 ∙ at) (sym (ap session_of e_connection) ∙ has) session channel)
  | inr other ↦ h m k e s ch other.1 has session channel
]

pushing_sent : (w : World) (n : ℕ) (p : Pushing) → AreSent (with_client n p.client w) → AreSent (with_pushing n p w)
pushing_sent w n p alone = pushing_keeps AreSent w n p alone (λ k channel is at. channel_set (with_client n p.client w) k channel _ at refl alone)

act_same : {F : Type 0} (schemas : WorldSchemas F) (c : Client) (p : Pushing) → Acts schemas c p → (p.client.connection ≡ c.connection) × (p.client.reached ≡ c.reached)
act_same schemas c _ (rests d q) = (q.connection, q.reached)
act_same schemas c _ (works d work q place rising) = let same = work_same d work in (same.connection ∙ q.connection, same.reached ∙ q.reached)

module _ {F : Type 0} (schemas : WorldSchemas F) where
  -- who asks is sent nothing yet
  asks_sent : (w : World) (n : ℕ) (readonly : Bool) (c : Client) → AreSessions w → AreSent w → AreSent (ask schemas n readonly w c)
  asks_sent w n readonly c stands h m k e s ch client has session channel =
      let next = length w.room.sessions in
      let entering : Session = record { readonly = readonly; pings = 0; phase = new } in
      elim (got_split w.clients n m (record c { connection = Asking next }) e client) [
        | inl same ↦
            let now : Some next ≡ Some k = sym (ap (λ (x : Client). session_of x.connection) same.1) ∙ has in
            let it : next ≡ k = cc in
            let long = stands.channels in
            let fresh : s ≡ entering = got_new w.room.sessions k entering s (omega arith) session in
            let empty : ch ≡ _ = got_new w.channels k _ ch (omega arith) channel in
            subst (λ (x : Client). IsSent x s.phase ch.to_client) (sym same.1)
            (subst (λ (x : Session). IsSent (record c { connection = Asking next }) x.phase ch.to_client) (sym fresh)
            (subst (λ (x : Channel). IsSent (record c { connection = Asking next }) new x.to_client) (sym empty)
            (record { place = None; last = None; at = refl; leads = refl; sent = (refl, refl); ends = tt })))
        | inr other ↦
            let less = stands.entered m k (record { client = e; made = other.1; has = has }) in
            let long = stands.channels in
            h m k e s ch other.1 has (got_old w.room.sessions k entering s less session) (got_old w.channels k _ ch (omega arith) channel)
      ]

  -- one that is given something
  drain_sent : (w : World) (n : ℕ) (s : Session) (channel : Channel) (notice : Notice) (after : Session) → slice_get w.room.sessions n ≡ Some s → slice_get w.channels n ≡ Some channel
      → Gives w.room n s notice after → s.pings ≡ 0 → AreSent w
      → AreSent (with_channel n (record channel { to_client = channel.to_client ++ notice ∷ [] }) (record w { room = with_session n after w.room }))
  drain_sent w n s channel notice after at there gives none h m k c u ch client has session to =
      elim (got_split w.room.sessions n k after u session) [
        | inl same ↦ elim (got_split w.channels n k (record channel { to_client = channel.to_client ++ notice ∷ [] }) ch to) [
          | inl it ↦
              let before : IsSent c s.phase channel.to_client = h m k c s channel client has (ap (slice_get w.room.sessions) same.0 ∙ at) (ap (slice_get w.channels) same.0 ∙ there) in
              subst (λ (x : Session). IsSent c x.phase ch.to_client) (sym same.1) (subst (λ (x : Channel). IsSent c after.phase x.to_client) (sym it.1)
              (given_sent w.room n s notice after c channel.to_client gives none before))
          | inr other ↦ absurd (other.0 same.0)
        ]
        | inr away ↦ elim (got_split w.channels n k (record channel { to_client = channel.to_client ++ notice ∷ [] }) ch to) [
          | inl it ↦ absurd (away.0 it.0)
          | inr other ↦ h m k c u ch client has away.1 other.1
        ]
      ]

  -- a client that is given what comes first
  deliver_sent : (w : World) (n k : ℕ) (c : Client) (channel : Channel) (notice : Notice) (notices : List Notice) → AreSessions w → slice_get w.clients n ≡ Some c
      → session_of c.connection ≡ Some k → slice_get w.channels k ≡ Some channel → channel.to_client ≡ notice ∷ notices → AreSent w
      → AreSent (with_client n (after_notice w.room.history k c notice).client (with_channel k (record channel { to_client = notices }) w))
  deliver_sent w n k c channel notice notices stands at has there first h m j e s ch client is session to =
      let after = (after_notice w.room.history k c notice).client in
      elim (got_split w.clients n m after e client) [
        | inl same ↦
            let on : session_of after.connection ≡ Some j = sym (ap (λ (x : Client). session_of x.connection) same.1) ∙ is in
            let before : session_of c.connection ≡ Some j = notice_less w.room.history k c notice has j on in
            let some : Some k ≡ Some j = sym has ∙ before in
            let it : k ≡ j = cc in
            elim (got_split w.channels k j (record channel { to_client = notices }) ch to) [
              | inl now ↦
                  let old : IsSent c s.phase (notice ∷ notices) = subst (λ ns. IsSent c s.phase ns) first (h n j c s channel at before session (ap (slice_get w.channels) now.0 ∙ there)) in
                  subst (λ (x : Client). IsSent x s.phase ch.to_client) (sym same.1) (subst (λ (x : Channel). IsSent after s.phase x.to_client) (sym now.1)
                  (delivered_sent w.room.history k c s.phase notice notices has old j on))
              | inr other ↦ absurd (other.0 (sym it))
            ]
        | inr away ↦ elim (got_split w.channels k j (record channel { to_client = notices }) ch to) [
          | inl now ↦ absurd (away.0 (stands.apart m n k (record { client = e; made = away.1; has = is ∙ ap Some now.0 }) (record { client = c; made = at; has = has })))
          | inr other ↦ h m j e s ch away.1 is session other.1
        ]
      ]

  sent_keep : Keeps schemas AreSent
  sent_keep = record {
    joins = λ w version made h m k c s ch client has session channel. elim (got-added w.clients m (new_client version) c client) [
      | inl same ↦ absurd (let none : None ≡ Some k = sym (ap (λ (x : Client). session_of x.connection) same) ∙ has in cc)
      | inr before ↦ h m k c s ch before has session channel
    ];
    rests = λ w n c d made at q h. client_set w n c d at q.connection q.reached h;
    cuts = λ w n j c made at is h m k e s ch client has session channel. elim (got-set w.clients n m _ e client) [
      | inl same ↦ absurd (let none : None ≡ Some k = sym (ap (λ (x : Client). session_of x.connection) same.1) ∙ has in cc)
      | inr before ↦ h m k e s ch before has session channel
    ];
    acts = λ w n c p made at acts h. let same = act_same schemas c p acts in pushing_sent w n p (client_set w n c p.client at same.0 same.1 h);
    asks = λ w n readonly c made at off place h. asks_sent w n readonly c (sessions_stand schemas w made) h;
    loses = λ w k channel room made at is h.
        let P : Room → Type 0 = λ r. AreSent (record w { room = r }) in
        let now : P room = leave_turns P k (λ r n s phase at who here over g. phase_set (record w { room = r }) n s (record s { phase = phase }) at (λ c ns i. closed_sent c s.phase phase ns here over i) g)
        (λ r n is g. g) w.room room k refl is (λ s at over g. phase_set w k s (record s { phase = gone }) at (λ c ns i. left_sent c s.phase ns over i) g) h in
        channel_set (record w { room = room }) k channel _ at refl now;
    handles = λ w k channel said messages replied made at first is h.
        let P : Room → Type 0 = λ r. AreSent (record w { room = r }) in
        let none : IsNoPing said = (subst AreNoPings first ((pings_stand schemas w made).none_sent k channel at)).0 in
        let now : P replied.room = message_turns P k (λ r n s phase at who here over g. phase_set (record w { room = r }) n s (record s { phase = phase }) at (λ c ns i. closed_sent c s.phase phase ns here over i) g)
        (λ r n is g. g) schemas.room w.room k refl said
        (λ s request reached protocol versions plan at says is planned g. phase_set w k s (record s { phase = asked request reached plan }) at (λ c ns i. asked_sent c s.phase request reached plan ns is i) g)
        (λ s count at says g. absurd (subst IsNoPing says none))
        (λ s sent plan push at says is taken g. g) replied is h in
        channel_set (record w { room = replied.room }) k channel _ at refl now;
    sends = λ w k channel given made at is h.
        let on = drain_gives schemas.room w.room k given is in
        drain_sent w k on.0 channel given.notice given.after on.1.at at on.2 ((pings_stand schemas w made).none_waits k on.0 on.1.at) h;
    delivers = λ w n k c channel notice notices made at is there first h.
        pushing_sent (with_channel k (record channel { to_client = notices }) w) n (after_notice w.room.history k c notice)
        (deliver_sent w n k c channel notice notices (sessions_stand schemas w made) at is there first h);
  }

  pub sent_stand : (w : World) → ReachableWorld schemas w → AreSent w
  sent_stand w made = everywhere schemas AreSent sent_keep (λ room reached none m k c s ch client has session channel. absurd (cc)) w made
