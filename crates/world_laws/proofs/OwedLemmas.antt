-- What clients owe that are connected.
use Rattle.std.proofs.Common.{◌≡◌, inl, inr, ℕ, zero, suc, ◌≤◌, ◌==◌, nat_lt, pos, Bool, true, false, not, ◌&&◌, cond, List, [], ◌∷◌, ◌++◌, length, map, drop, slice_get, slice_set, Option, Some, None, option_map, option_and_then, refl, sym, ap, subst, ◌∙◌, arith}
use Rattle.std.specs.Prelude.{option_to_list}
use Rattle.std.specs.Option.{option_map_or}
use Rattle.room_model.specs.Schemas.{WorldSchemas, AreLawfulTogether, Plan}
use Rattle.room_model.specs.Histories.{History}
use Rattle.room_model.specs.Accepting.{Push, is_taken}
use Rattle.room_model.specs.Closing as closing
use Rattle.room_model.specs.Closing.{is_closed}
use Rattle.room_model.specs.Reachable.{is_over}
use Rattle.room_model.specs.Rooms.{Phase, new, asked, live, ended, gone, Session, Room, has_left, session_at, unless_left, with_session, removal, without_slow, after_close, after_drain, Notice, snapshot_at, updates_between, pong, end, Replied, after_message, after_leave}
use Rattle.room_model.specs.Replicas.{Work, edit, presence, Pending, Client, new_client, is_open, session_of, Pushing, push_none, push_one, first_unsent, next_push, push_all, with_work, unsent, pending_diffs, after_cut, after_end, after_notice, count_by_session}
use Rattle.room_model.specs.Worlds.{Channel, World, with_client, with_channel, with_pushing, ask}
use Rattle.room_model.specs.declared.connection.Connection.TheVariants.{Off, Asking, Open}
use Rattle.room_model.specs.declared.limits.TheConstants.{MOST_PUSHES}
use Rattle.room_model.proofs.ActingLemmas.{differ}
use Rattle.room_model.proofs.CallLemmas.{got-set, got-added, member_of, pushed_by}
use Rattle.room_model.proofs.ClosingLemmas.{by_number}
use Rattle.sync_msgs.specs.declared.client_message.ClientMessage.{ClientMessage}
use Rattle.sync_msgs.specs.declared.end_reason.EndReason.{EndReason}
use Rattle.sync_msgs.specs.declared.end_reason.EndReason.TheVariants.{ClientTooOld, ServerTooOld, InvalidRecord, RoomFull, Slow}
use Rattle.world_laws.specs.Reachable.{ReachableWorld}
use Rattle.world_laws.specs.Sessions.{AreSessions}
use Rattle.world_laws.specs.Channels.{IsSentTo}
use Rattle.world_laws.specs.Requests.{IsHeard}
use Rattle.world_laws.specs.Clocks.{IsReached}
use Rattle.world_laws.specs.Pending.{AreInFlight, IsOwed, answered_above, goes_on, AreOwed}
use Rattle.world_laws.proofs.EventLemmas.{Acts, rests, works, Keeps, everywhere}
use Rattle.world_laws.proofs.PushLemmas.{got_split, got_old, answered as opened, same_pushed, IsLost, off, away, nowhere, pushing_split}
use Rattle.world_laws.proofs.RoomLemmas.{ignores, asks_now, pings, refuses, takes, message_receives, Gives, tells_end, answers, pongs, tells, drain_gives}
use Rattle.world_laws.proofs.SessionLemmas.{sessions_stand, sessions_client, sessions_channel}
use Rattle.std.proofs.lemmas.Bool.Decides.{Decides-eqb}
use Rattle.world_laws.proofs.ClockLemmas.{clocks_stand}
use Rattle.world_laws.proofs.PingLemmas.{pings_stand}
use Rattle.world_laws.specs.Channels.{IsNoPing, AreNoPings}
use Rattle.world_laws.proofs.DownLemmas.{sent_stand}
use Rattle.world_laws.proofs.DueLemmas.{next_due}
use Rattle.world_laws.proofs.TurnLemmas.{IsLast, untold, left, slow_ended, after_closed, leave_turns}
use Rattle.world_laws.proofs.PresenceLemmas.{last_over}
use Rattle.world_laws.proofs.RequestLemmas.{heard_stand, asks_none, over_closed, closed_after, left_closed}
use Rattle.world_laws.proofs.WaitingLemmas.{other_author, waiting_stand}
use Rattle.room_model.specs.declared.history.Entry.{Entry}
use Rattle.world_laws.proofs.CommitLemmas.{answers_push}
use Rattle.world_laws.proofs.OweLemmas.{append_none, owed_pushes, pushed_all, few_unsent, owed_over, owed_answer, by_other, by_own, none_answered, owed_updates, dropped_push, unsent_flight}

over_goes : (p : Phase) → is_over p ≡ true → goes_on p ≡ false
over_goes new over = refl
over_goes (asked request reached plan) over = refl
over_goes (live sent plan) over = absurd (cc)
over_goes (ended reason told) over = refl
over_goes gone over = refl

goes_here : (p : Phase) → has_left p ≡ true → goes_on p ≡ false
goes_here new h = refl
goes_here (asked request reached plan) h = refl
goes_here (live sent plan) h = absurd (cc)
goes_here (ended reason told) h = refl
goes_here gone h = refl

module _ {F : Type 0} (schemas : WorldSchemas F) where
  -- a further work
  flight_more : (goes : Bool) (items : List Pending) (work : Work) (ms : List ClientMessage) → AreInFlight goes items ms → AreInFlight goes (items ++ unsent work ∷ []) ms
  flight_more false items work ms h = tt
  flight_more true [] work [] h = (refl, tt)
  flight_more true [] work (said ∷ ms) h = absurd h
  flight_more true (item ∷ items) work [] h = (h.0, flight_more true items work [] h.1)
  flight_more true (item ∷ items) work (said ∷ ms) h = (h.0, flight_more true items work ms h.1)

  owed_more : (goes : Bool) (numbers : List Entry) (items : List Pending) (work : Work) (ms : List ClientMessage) → IsOwed schemas.room goes numbers items ms → IsOwed schemas.room goes numbers (items ++ unsent work ∷ []) ms
  owed_more goes [] items work ms h = flight_more goes items work ms h
  owed_more goes (number ∷ numbers) [] work ms h = absurd h
  owed_more goes (number ∷ numbers) (item ∷ items) work ms h = (h.0, owed_more goes numbers items work ms h.1)

  no_more : (c d : Client) → d.connection ≡ c.connection → d.pushes ≡ c.pushes → d.pending ≡ c.pending → next_push c ≡ None → next_push d ≡ None
  no_more c d connection pushes pending none =
      let may : Client → Bool = λ x. is_open x.connection && nat_lt x.pushes MOST_PUSHES in
      let same : may d ≡ may c = λ i. is_open (connection i) && nat_lt (pushes i) MOST_PUSHES in
      elim (may c) as (λ b. may d ≡ b → cond b (option_map (push_one c) (first_unsent c.pending)) None ≡ None → next_push d ≡ None) [
        | true ↦ λ m is.
            let first : first_unsent c.pending ≡ None = elim (first_unsent c.pending) as (λ o. option_map (push_one c) o ≡ None → o ≡ None) [ None ↦ λ s. refl | Some work ↦ λ s. absurd (cc) ] is in
            ap (λ b. cond b (option_map (push_one d) (first_unsent d.pending)) None) m ∙ ap (λ is. option_map (push_one d) (first_unsent is)) pending ∙ ap (option_map (push_one d)) first
        | false ↦ λ m is. ap (λ b. cond b (option_map (push_one d) (first_unsent d.pending)) None) m
      ] same none

  -- what is owed of one client, by the room's history, its session's phase and what is in flight
  pub record Owing (c : Client) (k reached : ℕ) (goes : Bool) (history : History) (ms : List ClientMessage) : Type 0 where
    owed : IsOwed schemas.room goes (answered_above k reached history) c.pending ms
    pushed : next_push c ≡ None

  -- all that can be is pushed
  pushes_owed : (e : Client) (k reached : ℕ) (goes : Bool) (history : History) (ms : List ClientMessage) → IsOwed schemas.room goes (answered_above k reached history) e.pending ms
      → Owing (push_all e).client k reached goes history (ms ++ (push_all e).messages)
  pushes_owed e k reached goes history ms h = record { owed = owed_pushes schemas.room goes (answered_above k reached history) (length e.pending) e ms h; pushed = pushed_all (length e.pending) e (few_unsent e.pending) }

  over_owing : (c : Client) (k reached : ℕ) (goes : Bool) (history : History) (ms others : List ClientMessage) → Owing c k reached goes history ms → Owing c k reached false history others
  over_owing c k reached goes history ms others h = record { owed = owed_over schemas.room (answered_above k reached history) c.pending ms goes h.owed others; pushed = h.pushed }

  -- the same of each client that is connected
  abbrev AllOwing : World → Type 0
  AllOwing w =
      (n k r : ℕ) (c : Client) (s : Session) (ch : Channel) → slice_get w.clients n ≡ Some c → c.connection ≡ Open k → c.reached ≡ pos r
      → slice_get w.room.sessions k ≡ Some s → slice_get w.channels k ≡ Some ch → Owing c k r (goes_on s.phase) w.room.history ch.to_room

  owing_channel : (w : World) (n : ℕ) (before after : Channel) → slice_get w.channels n ≡ Some before → after.to_room ≡ before.to_room → AllOwing w → AllOwing (with_channel n after w)
  owing_channel w n before after at same h m k r c s ch client on reached session channel = elim (got_split w.channels n k after ch channel) [
    | inl it ↦ subst (Owing c k r (goes_on s.phase) w.room.history) (sym (ap (λ (x : Channel). x.to_room) it.1 ∙ same)) (h m k r c s before client on reached session (ap (slice_get w.channels) it.0 ∙ at))
    | inr other ↦ h m k r c s ch client on reached session other.1
  ]

  -- what a connected client of a live session pushes comes into its channel
  not_lost : (w : World) (p : Pushing) (k : ℕ) (s : Session) → p.client.connection ≡ Open k → slice_get w.room.sessions k ≡ Some s → goes_on s.phase ≡ true
      → {ch : Channel} → slice_get w.channels k ≡ Some ch → IsLost w p → ⊥
  not_lost w p k s on session lives channel (off none) = absurd (let e : Some k ≡ None = sym (ap session_of on) ∙ none in cc)
  not_lost w p k s on session lives channel (away j is lost) =
      let some : Some j ≡ Some k = sym is ∙ ap session_of on in
      let it : j ≡ k = cc in
      let here : has_left s.phase ≡ false = elim (has_left s.phase) as (λ b. has_left s.phase ≡ b → b ≡ false) [
        | true ↦ λ h. absurd (differ (sym lives ∙ goes_here s.phase h))
        | false ↦ λ h. refl
      ] refl in
      let found : session_at j w.room ≡ Some s = ap (λ o. option_and_then unless_left o) (ap (slice_get w.room.sessions) it ∙ session) ∙ ap (λ b. cond b None (Some s)) here in
      differ (sym (ap (λ o. option_map_or (λ s. true) o false) found) ∙ lost)
  not_lost w p k s on session lives channel (nowhere j is none) =
      let some : Some j ≡ Some k = sym is ∙ ap session_of on in
      let it : j ≡ k = cc in
      absurd (let e : Some _ ≡ None = sym channel ∙ ap (slice_get w.channels) (sym it) ∙ none in cc)

  -- another than the one that was set
  set_away : {X : Type 0} (xs : List X) (n m : ℕ) (y z : X) → (m ≡ n → ⊥) → slice_get xs m ≡ Some z → slice_get (slice_set xs n y) m ≡ Some z
  set_away [] n m y z apart is = is
  set_away (x ∷ xs) zero zero y z apart is = absurd (apart refl)
  set_away (x ∷ xs) zero (suc m) y z apart is = is
  set_away (x ∷ xs) (suc n) zero y z apart is = is
  set_away (x ∷ xs) (suc n) (suc m) y z apart is = set_away xs n m y z (λ e. apart (ap suc e)) is

  set_here : {X : Type 0} (xs : List X) (n : ℕ) (x y : X) → slice_get xs n ≡ Some x → slice_get (slice_set xs n y) n ≡ Some y
  set_here [] n x y is = absurd (cc)
  set_here (z ∷ xs) zero x y is = refl
  set_here (z ∷ xs) (suc n) x y is = set_here xs n x y is

  -- a client set that isn't connected
  owing_off : (w : World) (n : ℕ) (d : Client) → is_open d.connection ≡ false → AllOwing w → AllOwing (with_client n d w)
  owing_off w n d closed h m k r e s ch client on reached session channel = elim (got-set w.clients n m d e client) [
    | inl same ↦ absurd (differ (sym (ap is_open on) ∙ ap (λ (x : Client). is_open x.connection) same.1 ∙ closed))
    | inr before ↦ h m k r e s ch before on reached session channel
  ]

  -- a client pushes all it can, which before owed what it did
  owing_pushing : (w : World) (n : ℕ) (e : Client) → AreSessions (with_client n e w) → ((k r : ℕ) (s : Session) (ch : Channel) → e.connection ≡ Open k → e.reached ≡ pos r
      → slice_get w.room.sessions k ≡ Some s → slice_get w.channels k ≡ Some ch → IsOwed schemas.room (goes_on s.phase) (answered_above k r w.room.history) e.pending ch.to_room)
      → ((m k r : ℕ) (c : Client) (s : Session) (ch : Channel) → (m ≡ n → ⊥) → slice_get w.clients m ≡ Some c → c.connection ≡ Open k → c.reached ≡ pos r
      → slice_get w.room.sessions k ≡ Some s → slice_get w.channels k ≡ Some ch → Owing c k r (goes_on s.phase) w.room.history ch.to_room)
      → slice_get (with_client n e w).clients n ≡ Some e → AllOwing (with_pushing n (push_all e) w)
  owing_pushing w n e stands before others at =
      let p = push_all e in
      let same = same_pushed (length e.pending) e in
      pushing_split AllOwing w n p
      (λ lost m k r c s ch client on reached session channel. elim (got_split w.clients n m p.client c client) [
        | inl it ↦
            let open_now : p.client.connection ≡ Open k = sym (ap (λ (x : Client). x.connection) it.1) ∙ on in
            let e_open : e.connection ≡ Open k = sym same.connection ∙ open_now in
            let e_reached : e.reached ≡ pos r = sym same.reached ∙ sym (ap (λ (x : Client). x.reached) it.1) ∙ reached in
            let all = pushes_owed e k r (goes_on s.phase) w.room.history ch.to_room (before k r s ch e_open e_reached session channel) in
            subst (λ (x : Client). Owing x k r (goes_on s.phase) w.room.history ch.to_room) (sym it.1)
            (elim (goes_on s.phase) as (λ b. goes_on s.phase ≡ b → Owing p.client k r b w.room.history (ch.to_room ++ p.messages) → Owing p.client k r b w.room.history ch.to_room) [
              | true ↦ λ lives all. absurd (not_lost w p k s open_now session lives channel lost)
              | false ↦ λ over all. over_owing p.client k r false w.room.history (ch.to_room ++ p.messages) ch.to_room all
            ] refl all)
        | inr other ↦ others m k r c s ch other.0 other.1 on reached session channel
      ])
      (λ j channel is there m k r c s ch client on reached session to. elim (got_split w.channels j k (record channel { to_room = channel.to_room ++ p.messages }) ch to) [
        | inl now ↦ elim (got_split w.clients n m p.client c client) [
          | inl it ↦
              let open_now : p.client.connection ≡ Open k = sym (ap (λ (x : Client). x.connection) it.1) ∙ on in
              let e_open : e.connection ≡ Open k = sym same.connection ∙ open_now in
              let e_reached : e.reached ≡ pos r = sym same.reached ∙ sym (ap (λ (x : Client). x.reached) it.1) ∙ reached in
              subst (λ (x : Client). Owing x k r (goes_on s.phase) w.room.history ch.to_room) (sym it.1)
              (subst (λ (x : Channel). Owing p.client k r (goes_on s.phase) w.room.history x.to_room) (sym now.1)
              (pushes_owed e k r (goes_on s.phase) w.room.history channel.to_room (before k r s channel e_open e_reached session (ap (slice_get w.channels) now.0 ∙ there))))
          | inr other ↦ absurd (other.0 (stands.apart m n j
              (record { client = c; made = set_away w.clients n m e c other.0 other.1; has = ap session_of on ∙ ap Some now.0 })
              (record { client = e; made = at; has = sym (ap session_of same.connection) ∙ is })))
        ]
        | inr elsewhere ↦ elim (got_split w.clients n m p.client c client) [
          | inl it ↦ absurd (
              let open_now : p.client.connection ≡ Open k = sym (ap (λ (x : Client). x.connection) it.1) ∙ on in
              let some : Some j ≡ Some k = sym is ∙ ap session_of open_now in
              let same_number : j ≡ k = cc in
              elsewhere.0 (sym same_number)
              )
          | inr other ↦ others m k r c s ch other.0 other.1 on reached session elsewhere.1
        ]
      ])

  -- a client set that pushes nothing
  owing_set : (w : World) (n : ℕ) (d : Client) → ((k r : ℕ) (s : Session) (ch : Channel) → d.connection ≡ Open k → d.reached ≡ pos r → slice_get w.room.sessions k ≡ Some s
      → slice_get w.channels k ≡ Some ch → Owing d k r (goes_on s.phase) w.room.history ch.to_room) → AllOwing w → AllOwing (with_client n d w)
  owing_set w n d mine h m k r e s ch client on reached session channel = elim (got-set w.clients n m d e client) [
    | inl same ↦ subst (λ (x : Client). Owing x k r (goes_on s.phase) w.room.history ch.to_room) (sym same.1)
        (mine k r s ch (sym (ap (λ (x : Client). x.connection) same.1) ∙ on) (sym (ap (λ (x : Client). x.reached) same.1) ∙ reached) session channel)
    | inr before ↦ h m k r e s ch before on reached session channel
  ]

  owing_rest : (w : World) (n : ℕ) (d : Client) → ((k r : ℕ) (s : Session) (ch : Channel) → d.connection ≡ Open k → d.reached ≡ pos r → slice_get w.room.sessions k ≡ Some s
      → slice_get w.channels k ≡ Some ch → Owing d k r (goes_on s.phase) w.room.history ch.to_room) → AllOwing w → AllOwing (with_pushing n (push_none d) w)
  owing_rest w n d mine h =
      let after = owing_set w n d mine h in
      pushing_split AllOwing w n (push_none d) (λ lost. after) (λ k channel is at. owing_channel (with_client n d w) k channel (record channel { to_room = channel.to_room ++ [] }) at (append_none channel.to_room) after)

  owing_same : (c d : Client) (k r : ℕ) (goes : Bool) (history : History) (ms : List ClientMessage) → d.connection ≡ c.connection → d.pushes ≡ c.pushes → d.pending ≡ c.pending
      → Owing c k r goes history ms → Owing d k r goes history ms
  owing_same c d k r goes history ms connection pushes pending h = record {
    owed = subst (λ is. IsOwed schemas.room goes (answered_above k r history) is ms) (sym pending) h.owed;
    pushed = no_more c d connection pushes pending h.pushed;
  }

  owing_history : (c : Client) (k r : ℕ) (goes : Bool) (before after : History) (ms : List ClientMessage) → answered_above k r after ≡ answered_above k r before → Owing c k r goes before ms → Owing c k r goes after ms
  owing_history c k r goes before after ms same h = record { owed = subst (λ ns. IsOwed schemas.room goes ns c.pending ms) (sym same) h.owed; pushed = h.pushed }

  act_owing : (w : World) (n : ℕ) (c : Client) (p : Pushing) → AreSessions w → slice_get w.clients n ≡ Some c → Acts schemas c p → AllOwing w → AllOwing (with_pushing n p w)
  act_owing w n c _ stands at (rests d q) h =
      owing_rest w n d (λ k r s ch on reached session channel. owing_same c d k r (goes_on s.phase) w.room.history ch.to_room q.connection q.pushes q.pending
      (h n k r c s ch at (sym q.connection ∙ on) (sym q.reached ∙ reached) session channel)) h
  act_owing w n c _ stands at (works d work q place rising) h =
      let e = with_work work d in
      owing_pushing w n e (sessions_client w n c e at (λ k is. sym (ap session_of q.connection) ∙ is) stands)
      (λ k r s ch on reached session channel.
      let old = h n k r c s ch at (sym q.connection ∙ on) (sym q.reached ∙ reached) session channel in
      owed_more (goes_on s.phase) (answered_above k r w.room.history) d.pending work ch.to_room
      (subst (λ is. IsOwed schemas.room (goes_on s.phase) (answered_above k r w.room.history) is ch.to_room) (sym q.pending) old.owed))
      (λ m k r x s ch apart client on reached session channel. h m k r x s ch client on reached session channel)
      (set_here w.clients n c e at)

  and_true : (b c : Bool) → c ≡ true → b && c ≡ b
  and_true true c is = is
  and_true false c is = refl

  and_false : (b c : Bool) → c ≡ false → b && c ≡ false
  and_false true c is = is
  and_false false c is = refl

  -- what is owed while the message of a session is handled, or the session leaves: nothing is said of what is in flight on that session
  abbrev goes_but : ℕ → ℕ → Phase → Bool
  goes_but k j p = goes_on p && not (j == k)

  record OweBetween (w : World) (k : ℕ) (r : Room) : Type 0 where
    longer : length w.room.history ≤ length r.history
    owing : (m j x : ℕ) (c : Client) (s : Session) (ch : Channel) → slice_get w.clients m ≡ Some c → c.connection ≡ Open j → c.reached ≡ pos x
        → slice_get r.sessions j ≡ Some s → slice_get w.channels j ≡ Some ch → Owing c j x (goes_but k j s.phase) r.history ch.to_room

  -- clients have reached at most the clock
  abbrev AreWithinClock : World → Type 0
  AreWithinClock w = (n x : ℕ) (c : Client) → slice_get w.clients n ≡ Some c → c.reached ≡ pos x → x ≤ length w.room.history

  within_clock : (w : World) → ReachableWorld schemas w → AreWithinClock w
  within_clock w made n x c at is = subst (IsReached (length w.room.history)) is ((clocks_stand schemas w made).reached n c at)

  to_over : (c : Client) (k r : ℕ) (goes over : Bool) (history : History) (ms others : List ClientMessage) → over ≡ false → Owing c k r goes history ms → Owing c k r over history others
  to_over c k r goes over history ms others is h = subst (λ b. Owing c k r b history others) (sym is) (over_owing c k r goes history ms others h)

  owe_closes : (w : World) (k : ℕ) (r : Room) (n : ℕ) (s : Session) (phase : Phase) → slice_get r.sessions n ≡ Some s → IsLast phase → OweBetween w k r → OweBetween w k (with_session n (record s { phase = phase }) r)
  owe_closes w k r n s phase at last g = record {
    longer = g.longer;
    owing = λ m j x c u ch client on reached session channel. elim (got_split r.sessions n j (record s { phase = phase }) u session) [
      | inl same ↦
          let before = g.owing m j x c s ch client on reached (ap (slice_get r.sessions) same.0 ∙ at) channel in
          let over : goes_but k j u.phase ≡ false = ap (λ (y : Session). goes_but k j y.phase) same.1 ∙ ap (λ b. b && not (j == k)) (over_goes phase (last_over phase last)) in
          to_over c j x (goes_but k j s.phase) (goes_but k j u.phase) r.history ch.to_room ch.to_room over before
      | inr other ↦ g.owing m j x c u ch client on reached other.1 channel
    ];
  }

  owe_removes : (w : World) (k : ℕ) (r : Room) (n : ℕ) → AreWithinClock w → OweBetween w k r → OweBetween w k (record r { history = removal n ∷ r.history })
  owe_removes w k r n bound g =
      let longer = g.longer in
      record {
        longer = omega arith;
        owing = λ m j x c s ch client on reached session channel.
            let less = bound m x c client reached in
            owing_history c j x (goes_but k j s.phase) r.history (removal n ∷ r.history) ch.to_room (by_other j x (removal n) r.history refl (omega arith)) (g.owing m j x c s ch client on reached session channel);
      }

  owe_begins : (w : World) (k : ℕ) (before after : Channel) → slice_get w.channels k ≡ Some before → AllOwing w → OweBetween (with_channel k after w) k w.room
  owe_begins w k before after at h = record {
    longer = omega arith;
    owing = λ m j x c s ch client on reached session channel. elim (got_split w.channels k j after ch channel) [
      | inl it ↦
          let none : goes_but k j s.phase ≡ false = and_false (goes_on s.phase) (not (j == k)) (ap not ((Decides-eqb j k).1 it.0)) in
          to_over c j x (goes_on s.phase) (goes_but k j s.phase) w.room.history before.to_room ch.to_room none
          (h m j x c s before client on reached session (ap (slice_get w.channels) it.0 ∙ at))
      | inr other ↦
          let all : goes_but k j s.phase ≡ goes_on s.phase = and_true (goes_on s.phase) (not (j == k)) (ap not (other_author k j (λ e. other.0 (sym e)))) in
          subst (λ b. Owing c j x b w.room.history ch.to_room) (sym all) (h m j x c s ch client on reached session other.1)
    ];
  }

  owe_ends : (w : World) (k : ℕ) (r : Room) → ((s : Session) → slice_get r.sessions k ≡ Some s → goes_on s.phase ≡ false) → OweBetween w k r → AllOwing (record w { room = r })
  owe_ends w k r over g m j x c s ch client on reached session channel =
      let h = g.owing m j x c s ch client on reached session channel in
      let same : goes_but k j s.phase ≡ goes_on s.phase = by_number (λ b. (goes_on s.phase && not b) ≡ goes_on s.phase) j k
      (λ e. (let none = over s (ap (slice_get r.sessions) (sym e) ∙ session) in and_false (goes_on s.phase) false refl ∙ sym none))
      (λ e. and_true (goes_on s.phase) true refl) in
      subst (λ b. Owing c j x b r.history ch.to_room) same h

  -- a session's push is taken
  owing_taken : (w : World) (k : ℕ) (s : Session) (sent : ℕ) (plan : Plan) (push : Push) (channel : Channel) (said : ClientMessage) (messages : List ClientMessage)
      → slice_get w.room.sessions k ≡ Some s → slice_get w.channels k ≡ Some channel → channel.to_room ≡ said ∷ messages → closing.push_of said ≡ Some push → s.phase ≡ live sent plan
      → AreLawfulTogether schemas → is_taken schemas.room (member_of k s plan) push ≡ true → AreWithinClock w → AllOwing w
      → AllOwing (record w { room = record w.room { history = pushed_by schemas.room w.room k s plan push ∷ w.room.history }; channels = slice_set w.channels k (record channel { to_room = messages }) })
  owing_taken w k s sent plan push channel said messages at there first says is lawful taken bound h m j x c u ch client on reached session to =
      let entry = pushed_by schemas.room w.room k s plan push in
      let history = w.room.history in
      let less = bound m x c client reached in
      let answers_it = answers_push schemas.room lawful.room w.room k s plan push said taken says in
      elim (got_split w.channels k j (record channel { to_room = messages }) ch to) [
        | inl it ↦
            let some : Some u ≡ Some s = sym session ∙ ap (slice_get w.room.sessions) it.0 ∙ at in
            let same : u ≡ s = cc in
            let lives : goes_on u.phase ≡ true = ap (λ (y : Session). goes_on y.phase) same ∙ ap goes_on is in
            let old : Owing c j x (goes_on u.phase) history channel.to_room = h m j x c u channel client on reached session (ap (slice_get w.channels) it.0 ∙ there) in
            let before : IsOwed schemas.room true (answered_above j x history) c.pending (said ∷ messages) =
            subst (λ b. IsOwed schemas.room b (answered_above j x history) c.pending (said ∷ messages)) lives
            (subst (IsOwed schemas.room (goes_on u.phase) (answered_above j x history) c.pending) first old.owed) in
            let now : IsOwed schemas.room true (answered_above j x (entry ∷ history)) c.pending messages =
            subst (λ ns. IsOwed schemas.room true ns c.pending messages) (sym (by_own j x entry history ((Decides-eqb k j).1 (sym it.0)) less))
            (owed_answer schemas.room (answered_above j x history) c.pending said messages entry answers_it before) in
            subst (λ (y : Channel). Owing c j x (goes_on u.phase) (entry ∷ history) y.to_room) (sym it.1)
            (record { owed = subst (λ b. IsOwed schemas.room b (answered_above j x (entry ∷ history)) c.pending messages) (sym lives) now; pushed = old.pushed })
        | inr other ↦
            owing_history c j x (goes_on u.phase) history (entry ∷ history) ch.to_room
            (by_other j x entry history (other_author j k other.0) less) (h m j x c u ch client on reached session other.1)
      ]

  -- sessions that are too slow are ended
  owing_slow : (w : World) (n : ℕ) (r : Room) → AreWithinClock w → length w.room.history ≤ length r.history → AllOwing (record w { room = r }) → AllOwing (record w { room = without_slow n r })
  owing_slow w n r bound more h =
      let P : Room → Type 0 = λ r. (length w.room.history ≤ length r.history) × AllOwing (record w { room = r }) in
      (slow_ended P 0
      (λ r j s phase at who here over g. (
        g.0,
        λ m i x c u ch client on reached session channel. elim (got_split r.sessions j i (record s { phase = phase }) u session) [
          | inl same ↦ to_over c i x (goes_on s.phase) (goes_on u.phase) r.history ch.to_room ch.to_room
              (ap (λ (y : Session). goes_on y.phase) same.1 ∙ over_goes phase (last_over phase over))
              (g.1 m i x c s ch client on reached (ap (slice_get r.sessions) same.0 ∙ at) channel)
          | inr other ↦ g.1 m i x c u ch client on reached other.1 channel
        ],
      ))
      (λ r j is g. (
        let longer = g.0 in omega arith,
        λ m i x c s ch client on reached session channel.
            let less = bound m x c client reached in
            let longer = g.0 in
            owing_history c i x (goes_on s.phase) r.history (removal j ∷ r.history) ch.to_room (by_other i x (removal j) r.history refl (omega arith)) (g.1 m i x c s ch client on reached session channel),
      ))
      n r (more, h)).1

  owing_handled : (w : World) (k : ℕ) (channel : Channel) (said : ClientMessage) (messages : List ClientMessage) (replied : Replied) → AreLawfulTogether schemas → IsNoPing said → AreWithinClock w
      → slice_get w.channels k ≡ Some channel → channel.to_room ≡ said ∷ messages → after_message schemas.room w.room k said ≡ Some replied → AllOwing w
      → AllOwing (with_channel k (record channel { to_room = messages }) (record w { room = replied.room }))
  owing_handled w k channel said messages replied lawful no_ping bound there first is h =
      let on = message_receives schemas.room w.room k said replied is in
      let s = on.0 in
      let at = on.1.at in
      let v = with_channel k (record channel { to_room = messages }) w in
      let begins : OweBetween v k w.room = owe_begins w k channel (record channel { to_room = messages }) there h in
      elim on.2 as (λ after r. AllOwing (record v { room = after })) [
        | ignores over ↦ owe_ends v k w.room
            (λ u it. (let some : Some u ≡ Some s = sym it ∙ at in let same : u ≡ s = cc in ap (λ (y : Session). goes_on y.phase) same ∙ over_goes s.phase over)) begins
        | asks_now request reached protocol versions plan says is planned ↦
            let t : Session = record s { phase = asked request reached plan } in
            let now : OweBetween v k (with_session k t w.room) = record {
              longer = begins.longer;
              owing = λ m j x c u ch client on reached session channel. elim (got_split w.room.sessions k j t u session) [
                | inl same ↦
                    let before = begins.owing m j x c s ch client on reached (ap (slice_get w.room.sessions) same.0 ∙ at) channel in
                    let none : goes_but k j u.phase ≡ false = ap (λ (y : Session). goes_but k j y.phase) same.1 in
                    to_over c j x (goes_but k j s.phase) (goes_but k j u.phase) w.room.history ch.to_room ch.to_room none before
                | inr other ↦ begins.owing m j x c u ch client on reached other.1 channel
              ];
            } in
            owe_ends v k (with_session k t w.room)
            (λ u it. (let some : Some t ≡ Some u = sym (set_here w.room.sessions k s t at) ∙ it in let same : t ≡ u = cc in ap (λ (y : Session). goes_on y.phase) (sym same))) now
        | pings count says here ↦ absurd (subst IsNoPing says no_ping)
        | refuses reason here ↦
            let after = after_close k s (ended reason false) w.room in
            owe_ends v k after (λ u it. over_goes u.phase (over_closed after k u (closed_after w.room k s (ended reason false) at (untold reason)) it))
            (after_closed (OweBetween v k) k (λ r j u phase from who here over g. owe_closes v k r j u phase from over g) (λ r j is g. owe_removes v k r j bound g)
            w.room k s (ended reason false) refl at here (untold reason) begins)
        | takes sent plan push says is taken ↦
            let now : Room = record w.room { history = pushed_by schemas.room w.room k s plan push ∷ w.room.history } in
            owing_slow v (length now.sessions) now bound (omega arith) (owing_taken w k s sent plan push channel said messages at there first says is lawful taken bound h)
      ]

  owing_lost : (w : World) (k : ℕ) (channel : Channel) (room : Room) → AreWithinClock w → slice_get w.channels k ≡ Some channel → after_leave w.room k ≡ Some room → AllOwing w
      → AllOwing (with_channel k (record channel { to_room = [] }) (record w { room = room }))
  owing_lost w k channel room bound there is h =
      let v = with_channel k (record channel { to_room = [] }) w in
      owe_ends v k room (λ u it. over_goes u.phase (over_closed room k u (left_closed w.room room k is) it))
      (leave_turns (OweBetween v k) k (λ r j u phase from who here over g. owe_closes v k r j u phase from over g) (λ r j is g. owe_removes v k r j bound g) w.room room k refl is
      (λ s at over g. owe_closes v k w.room k s gone at left g)
      (owe_begins w k channel (record channel { to_room = [] }) there h))

  -- a session that is given something goes on as it did, if its client is connected
  given_goes : (room : Room) (n : ℕ) (s : Session) (notice : Notice) (after : Session) (c : Client) (k : ℕ) (ms : List ClientMessage) → Gives room n s notice after → c.connection ≡ Open k
      → IsHeard schemas c k s.phase ms → goes_on after.phase ≡ goes_on s.phase
  given_goes room n s _ _ c k ms (tells_end reason is) on heard = sym (ap goes_on is)
  given_goes room n s _ _ c k ms (answers request reached plan is) on heard =
      let e : IsHeard schemas c k (asked request reached plan) ms = subst (λ p. IsHeard schemas c k p ms) is heard in
      absurd (let no : Open k ≡ Asking k = sym on ∙ e.0 in cc)
  given_goes room n s _ _ c k ms (pongs some) on heard = refl
  given_goes room n s _ _ c k ms (tells sent plan is less) on heard = sym (ap goes_on is)

  owing_drained : (w : World) (n : ℕ) (s : Session) (notice : Notice) (after : Session) → ReachableWorld schemas w → slice_get w.room.sessions n ≡ Some s → Gives w.room n s notice after
      → AllOwing w → AllOwing (record w { room = with_session n after w.room })
  owing_drained w n s notice after made at gives h m k r c u ch client on reached session channel = elim (got_split w.room.sessions n k after u session) [
    | inl same ↦
        let here = ap (slice_get w.room.sessions) same.0 ∙ at in
        let heard = heard_stand schemas w made m k c s ch client (ap session_of on) here channel in
        let goes : goes_on u.phase ≡ goes_on s.phase = ap (λ (y : Session). goes_on y.phase) same.1 ∙ given_goes w.room n s notice after c k ch.to_room gives on heard in
        subst (λ b. Owing c k r b w.room.history ch.to_room) (sym goes) (h m k r c s ch client on reached here channel)
    | inr other ↦ h m k r c u ch client on reached other.1 channel
  ]

  owing_asks : (w : World) (n : ℕ) (readonly : Bool) (c : Client) → AreSessions w → AllOwing w → AllOwing (ask schemas n readonly w c)
  owing_asks w n readonly c stands h m k r e s ch client on reached session channel =
      let next = length w.room.sessions in
      let long = stands.channels in
      elim (got-set w.clients n m (record c { connection = Asking next }) e client) [
        | inl same ↦ absurd (let no : Open k ≡ Asking next = sym on ∙ ap (λ (x : Client). x.connection) same.1 in cc)
        | inr before ↦
            let less = stands.entered m k (record { client = e; made = before; has = ap session_of on }) in
            h m k r e s ch before on reached (got_old w.room.sessions k _ s less session) (got_old w.channels k _ ch (omega arith) channel)
      ]

  end_off : (reason : EndReason) (c : Client) → is_open (after_end reason c).connection ≡ false
  end_off Slow c = refl
  end_off ClientTooOld c = refl
  end_off ServerTooOld c = refl
  end_off InvalidRecord c = refl
  end_off RoomFull c = refl

  not_new_sent : (p : Phase) (notice : Notice) (notices : List Notice) (last : Option ℕ) → IsSentTo p (notice ∷ notices) last → p ≡ new → ⊥
  not_new_sent p notice notices last sent is = let h : IsSentTo new (notice ∷ notices) last = subst (λ p. IsSentTo p (notice ∷ notices) last) is sent in absurd (let no = h.0 in cc)

  owing_delivered : (w : World) (n k : ℕ) (c : Client) (channel : Channel) (notices : List Notice) (notice : Notice) → ReachableWorld schemas w → AreLawfulTogether schemas → slice_get w.clients n ≡ Some c
      → session_of c.connection ≡ Some k → slice_get w.channels k ≡ Some channel → channel.to_client ≡ notice ∷ notices → AllOwing w
      → AllOwing (with_pushing n (after_notice w.room.history k c notice) (with_channel k (record channel { to_client = notices }) w))
  owing_delivered w n k c channel notices (snapshot_at clock) made lawful at has there first h =
      let v = with_channel k (record channel { to_client = notices }) w in
      let e = opened k clock c in
      let asks : c.connection ≡ Asking k = next_due schemas w n k c channel (snapshot_at clock) notices made at has there first in
      let now = owing_channel w k channel (record channel { to_client = notices }) there refl h in
      owing_pushing v n e (sessions_client v n c e at (λ j is. has ∙ is) (sessions_channel w k (record channel { to_client = notices }) (sessions_stand schemas w made)))
      (λ j r s ch on reached session to.
      let it : k ≡ j = cc in
      let here = ap (slice_get w.room.sessions) it ∙ session in
      let sent = sent_stand schemas w made n k c s channel at has here there in
      let fresh : s.phase ≡ new → ⊥ = not_new_sent s.phase (snapshot_at clock) notices sent.last (subst (λ ns. IsSentTo s.phase ns sent.last) first sent.sent) in
      let empty : channel.to_room ≡ [] = asks_none schemas c k s.phase channel.to_room fresh (heard_stand schemas w made n k c s channel at has here there) asks in
      let ch_empty : ch.to_room ≡ [] = elim (got_split w.channels k j (record channel { to_client = notices }) ch to) [
        | inl same ↦ ap (λ (y : Channel). y.to_room) same.1 ∙ empty
        | inr other ↦ absurd (other.0 (sym it))
      ] in
      let none : answered_above j r w.room.history ≡ [] = subst (λ i. answered_above i r w.room.history ≡ []) it
      (none_answered k r w.room.history ((waiting_stand schemas lawful w made).none n k c at asks)) in
      subst (λ ns. IsOwed schemas.room (goes_on s.phase) ns e.pending ch.to_room) (sym none)
      (subst (AreInFlight (goes_on s.phase) e.pending) (sym ch_empty) (unsent_flight (goes_on s.phase) (map edit (pending_diffs c) ++ map presence (option_to_list c.presence)))))
      (λ m j r x s ch apart client on reached session to. now m j r x s ch client on reached session to)
      (set_here w.clients n c e at)
  owing_delivered w n k c channel notices (updates_between from to) made lawful at has there first h =
      let v = with_channel k (record channel { to_client = notices }) w in
      let due = next_due schemas w n k c channel (updates_between from to) notices made at has there first in
      let now = owing_channel w k channel (record channel { to_client = notices }) there refl h in
      let told = count_by_session k from to w.room.history in
      owing_rest v n (record c { reached = pos to; pending = drop told c.pending })
      (λ j r s ch on reached session to_it.
      let same : Open k ≡ Open j = sym due.0 ∙ on in
      let it : k ≡ j = cc in
      let at_clock : to ≡ r = cc in
      let less = due.2 in
      let old : Owing c j from (goes_on s.phase) w.room.history ch.to_room = now n j from c s ch at on due.1 session to_it in
      let k_old : IsOwed schemas.room (goes_on s.phase) (answered_above k from w.room.history) c.pending ch.to_room = subst (λ i. IsOwed schemas.room (goes_on s.phase) (answered_above i from w.room.history) c.pending ch.to_room) (sym it) old.owed in
      let later : IsOwed schemas.room (goes_on s.phase) (answered_above k to w.room.history) (drop told c.pending) ch.to_room = owed_updates schemas.room (goes_on s.phase) k from to w.room.history c.pending ch.to_room (omega arith) k_old in
      record {
        owed = subst (λ i. IsOwed schemas.room (goes_on s.phase) (answered_above i r w.room.history) (drop told c.pending) ch.to_room) it
            (subst (λ x. IsOwed schemas.room (goes_on s.phase) (answered_above k x w.room.history) (drop told c.pending) ch.to_room) at_clock later);
        pushed = dropped_push told (pos to) c old.pushed;
      })
      now
  owing_delivered w n k c channel notices pong made lawful at has there first h =
      let v = with_channel k (record channel { to_client = notices }) w in
      let now = owing_channel w k channel (record channel { to_client = notices }) there refl h in
      owing_rest v n c (λ j r s ch on reached session to. now n j r c s ch at on reached session to) now
  owing_delivered w n k c channel notices (end reason) made lawful at has there first h =
      let v = with_channel k (record channel { to_client = notices }) w in
      let now = owing_channel w k channel (record channel { to_client = notices }) there refl h in
      owing_rest v n (after_end reason c) (λ j r s ch on reached session to. absurd (differ (sym (ap is_open on) ∙ end_off reason c))) now

  owing_keep : AreLawfulTogether schemas → Keeps schemas AllOwing
  owing_keep lawful = record {
    joins = λ w version made h m k r c s ch client on reached session channel. elim (got-added w.clients m (new_client version) c client) [
      | inl same ↦ absurd (let no : Open k ≡ Off = sym on ∙ ap (λ (x : Client). x.connection) same in cc)
      | inr before ↦ h m k r c s ch before on reached session channel
    ];
    rests = λ w n c d made at q h. owing_set w n d (λ k r s ch on reached session channel. owing_same c d k r (goes_on s.phase) w.room.history ch.to_room q.connection q.pushes q.pending
        (h n k r c s ch at (sym q.connection ∙ on) (sym q.reached ∙ reached) session channel)) h;
    cuts = λ w n k c made at is h. owing_off w n (after_cut c) refl h;
    acts = λ w n c p made at acts h. act_owing w n c p (sessions_stand schemas w made) at acts h;
    asks = λ w n readonly c made at off place h. owing_asks w n readonly c (sessions_stand schemas w made) h;
    loses = λ w k channel room made at is h. owing_lost w k channel room (within_clock w made) at is h;
    handles = λ w k channel said messages replied made at first is h.
        owing_handled w k channel said messages replied lawful (subst AreNoPings first ((pings_stand schemas w made).none_sent k channel at)).0 (within_clock w made) at first is h;
    sends = λ w k channel given made at is h.
        let on = drain_gives schemas.room w.room k given is in
        owing_channel (record w { room = after_drain w.room k given }) k channel _ at refl (owing_drained w k on.0 given.notice given.after made on.1.at on.2 h);
    delivers = λ w n k c channel notice notices made at is there first h. owing_delivered w n k c channel notices notice made lawful at is there first h;
  }

  pub owed_stand : AreLawfulTogether schemas → (w : World) → ReachableWorld schemas w → AreOwed schemas.room w
  owed_stand lawful w made =
      let h = everywhere schemas AllOwing (owing_keep lawful) (λ room calls none m k r c s ch client on reached session channel. absurd (cc)) w made in
      λ n k r c s ch client on reached session channel. (let o = h n k r c s ch client on reached session channel in record { owed = o.owed; pushed = o.pushed })
