-- That a client which a session serves expects what comes, and has the room's base.
use Rattle.std.proofs.Common.{◌≡◌, inl, inr, ◌⊎◌, ℕ, ◌≤◌, ◌==◌, min, ℤ, pos, negsuc, Bool, true, false, ◌||◌, cond, List, [], ◌∷◌, ◌++◌, length, Option, Some, None, Result, Ok, Err, refl, sym, ap, subst, ◌∙◌, append-nil, append_assoc, arith}
use Rattle.std.specs.Prelude.{fold, filter_map, decimal}
use Rattle.std.specs.List.{cons_option, list_any}
use Rattle.std.proofs.lemmas.Bool.Decides.{Decides-eqb}
use Rattle.std.proofs.lemmas.List.Elements.{filter-append, filter_map-append}
use Rattle.std.proofs.lemmas.List.Folds.{list_any-append}
use Rattle.std.proofs.lemmas.Option.{same_Some}
use Rattle.rooms_val.specs.Data.{Data}
use Rattle.migrate_seq.specs.Versions.{Versions}
use Rattle.room_model.specs.Bases.{whole_for}
use Rattle.room_model.specs.Closing.{push_of}
use Rattle.room_model.specs.Histories.{records_of, oldest, up_to}
use Rattle.room_model.specs.Replicas.{Pending, Work}
use Rattle.room_model.specs.Schemas.{Schemas, AreLawful, Plan}
use Rattle.room_model.specs.Taking.{Replica}
use Rattle.room_model.specs.declared.connection.Connection.{Connection}
use Rattle.room_model.specs.declared.connection.Connection.TheVariants.{Off, Asking, Open}
use Rattle.room_model.proofs.OldestLemmas.{oldest_twice, length-oldest}
use Rattle.room_events.specs.Events.{session_of, events_of}
use Rattle.room_events.specs.Following.{Follower, Follows, ArePushed, AllAsk, AreResultsOf, request_of, pushes_of, replica_after, replica_of}
use Rattle.room_events.specs.Legal.{Legal, state_of}
use Rattle.room_events.specs.Told.{told_after, told_up_to, is_ping, is_pong}
use Rattle.room_events.specs.declared.room_event.RoomEvent.{RoomEvent}
use Rattle.room_events.specs.declared.room_event.RoomEvent.TheVariants.{Enter, Message, Drain, Leave}
use Rattle.room_events.proofs.ExpectLemmas.{snapshot_expected, results_expected}
use Rattle.room_events.proofs.FollowLemmas.{history_grows, client_follows, told_bounded}
use Rattle.room_events.proofs.LegalLemmas.{before as legal_before}
use Rattle.room_events.proofs.PingLemmas.{no_pong}
use Rattle.room_events.proofs.ToldLemmas.{updates_from}
use Rattle.sync_client.specs.Calls.{ClientState}
use Rattle.sync_client.specs.Faults.{events_fault, answer_fault, take_fault}
use Rattle.sync_msgs.specs.declared.client_message.ClientMessage.{ClientMessage}
use Rattle.sync_msgs.specs.declared.client_message.ClientMessage.TheVariants as say
use Rattle.sync_msgs.specs.declared.data_event.DataEvent.{DataEvent}
use Rattle.sync_msgs.specs.declared.end_reason.EndReason.{EndReason}
use Rattle.sync_msgs.specs.declared.out.Out.TheVariants as out
use Rattle.sync_msgs.specs.declared.server_message.ServerMessage.{ServerMessage}
use Rattle.sync_msgs.specs.declared.server_message.ServerMessage.TheVariants as reply
use Rattle.join_laws.specs.Sessions.{given_by, sent_by, given_in, sent_in, BeginsWith}
use Rattle.join_laws.proofs.FaringLemmas.{AllPushed, first_pushed, rep, tells, brings, IsWhere, AreFine, fine_first, Is, AreNotBelow, go_on_not_below, events_expected, connect_expected, data_expected}

-- beginnings of a list of events, by what a session was given

module _ (n : ℕ) where
  abbrev given_to : List RoomEvent → List ServerMessage
  given_to events = given_in (events_of n events)

  abbrev sent_from : List RoomEvent → List ClientMessage
  sent_from events = sent_in (events_of n events)

  given_joined : (xs ys : List RoomEvent) → given_to (xs ++ ys) ≡ given_to xs ++ given_to ys
  given_joined xs ys = ap given_in (filter-append (λ event. session_of event == n) xs ys) ∙ filter_map-append given_by (events_of n xs) (events_of n ys)

  sent_joined : (xs ys : List RoomEvent) → sent_from (xs ++ ys) ≡ sent_from xs ++ sent_from ys
  sent_joined xs ys = ap sent_in (filter-append (λ event. session_of event == n) xs ys) ∙ filter_map-append sent_by (events_of n xs) (events_of n ys)

  given_own : (event : RoomEvent) (o : Option ServerMessage) (events : List RoomEvent) → (session_of event == n) ≡ true → given_by event ≡ o → given_to (event ∷ events) ≡ cons_option o (given_to events)
  given_own event o events own is =
      ap (λ b. given_in (cond b (event ∷ events_of n events) (events_of n events))) own ∙ ap (λ o. cons_option o (given_to events)) is

  given_other : (event : RoomEvent) (events : List RoomEvent) → (session_of event == n) ≡ false → given_to (event ∷ events) ≡ given_to events
  given_other event events apart = ap (λ b. given_in (cond b (event ∷ events_of n events) (events_of n events))) apart

  -- what came, and what is left, are those of two parts of the list
  record IsCut (events : List RoomEvent) (came rest : List ServerMessage) : Type 0 where
    before : List RoomEvent
    after : List RoomEvent
    is : before ++ after ≡ events
    first : given_to before ≡ came
    last : given_to after ≡ rest

  cut_on : (event : RoomEvent) (events : List RoomEvent) (came rest now : List ServerMessage) → IsCut events came rest → ((before : List RoomEvent) → given_to before ≡ came → given_to (event ∷ before) ≡ now) → IsCut (event ∷ events) now rest
  cut_on event events came rest now c so = record { before = event ∷ c.before; after = c.after; is = ap (λ es. event ∷ es) c.is; first = so c.before c.first; last = c.last }

  cut : (events : List RoomEvent) (came rest : List ServerMessage) → came ++ rest ≡ given_to events → IsCut events came rest
  cut events [] rest is = record { before = []; after = events; is = refl; first = refl; last = sym is }
  cut [] (m ∷ came) rest is = absurd (cc)
  cut (event ∷ events) (m ∷ came) rest is =
      elim (session_of event == n) as (λ b. (session_of event == n) ≡ b → IsCut (event ∷ events) (m ∷ came) rest) [
        | true ↦ λ own. elim (given_by event) as (λ o. given_by event ≡ o → IsCut (event ∷ events) (m ∷ came) rest) [
          | None ↦ λ none.
              let c = cut events (m ∷ came) rest (is ∙ given_own event None events own none) in
              cut_on event events (m ∷ came) rest (m ∷ came) c (λ before first. given_own event None before own none ∙ first)
          | Some x ↦ λ given.
              let e : m ∷ (came ++ rest) ≡ x ∷ given_to events = is ∙ given_own event (Some x) events own given in
              let tails : came ++ rest ≡ given_to events = cc in
              let heads : m ≡ x = cc in
              let c = cut events came rest tails in
              cut_on event events came rest (m ∷ came) c (λ before first. given_own event (Some x) before own given ∙ ap (λ ms. x ∷ ms) first ∙ ap (λ y. y ∷ came) (sym heads))
        ] refl
        | false ↦ λ apart.
            let c = cut events (m ∷ came) rest (is ∙ given_other event events apart) in
            cut_on event events (m ∷ came) rest (m ∷ came) c (λ before first. given_other event before apart ∙ first)
      ] refl

  -- by which event a message is given
  drained : (event : RoomEvent) (m : ServerMessage) → (session_of event == n) ≡ true → given_by event ≡ Some m → event ≡ Drain n (Some (out.Message m))
  drained (Enter number readonly) m own is = absurd (cc)
  drained (Message number said replied) m own is = absurd (cc)
  drained (Leave number) m own is = absurd (cc)
  drained (Drain number None) m own is = absurd (cc)
  drained (Drain number (Some (out.End reason))) m own is = absurd (cc)
  drained (Drain number (Some (out.Message x))) m own is =
      ap (λ y. Drain number (Some (out.Message y))) (same_Some x m is) ∙ ap (λ k. Drain k (Some (out.Message m))) ((Decides-eqb number n).0 own)

  -- the event by which the next message is given, after what came
  record IsGiven (events : List RoomEvent) (came : List ServerMessage) (m : ServerMessage) : Type 0 where
    before : List RoomEvent
    after : List RoomEvent
    is : before ++ Drain n (Some (out.Message m)) ∷ after ≡ events
    first : given_to before ≡ came

  given_first : (events : List RoomEvent) (m : ServerMessage) (rest : List ServerMessage) → given_to events ≡ m ∷ rest → IsGiven events [] m
  given_first [] m rest is = absurd (cc)
  given_first (event ∷ events) m rest is =
      elim (session_of event == n) as (λ b. (session_of event == n) ≡ b → IsGiven (event ∷ events) [] m) [
        | true ↦ λ own. elim (given_by event) as (λ o. given_by event ≡ o → IsGiven (event ∷ events) [] m) [
          | None ↦ λ none.
              let g = given_first events m rest (sym (given_own event None events own none) ∙ is) in
              record { before = event ∷ g.before; after = g.after; is = ap (λ es. event ∷ es) g.is; first = given_own event None g.before own none ∙ g.first }
          | Some x ↦ λ given.
              let e : x ∷ given_to events ≡ m ∷ rest = sym (given_own event (Some x) events own given) ∙ is in
              let heads : x ≡ m = cc in
              record { before = []; after = events; is = ap (λ e. e ∷ events) (sym (drained event m own (given ∙ ap Some heads))); first = refl }
        ] refl
        | false ↦ λ apart.
            let g = given_first events m rest (sym (given_other event events apart) ∙ is) in
            record { before = event ∷ g.before; after = g.after; is = ap (λ es. event ∷ es) g.is; first = given_other event g.before apart ∙ g.first }
      ] refl

  given_next : (events : List RoomEvent) (came : List ServerMessage) (m : ServerMessage) → BeginsWith (given_to events) (came ++ m ∷ []) → IsGiven events came m
  given_next events came m b =
      let c = cut events came (m ∷ b.0) (sym (append_assoc came (m ∷ []) b.0) ∙ b.1) in
      let g = given_first c.after m b.0 c.last in
      record {
        before = c.before ++ g.before;
        after = g.after;
        is = append_assoc c.before g.before (Drain n (Some (out.Message m)) ∷ g.after) ∙ ap (λ es. c.before ++ es) g.is ∙ c.is;
        first = given_joined c.before g.before ∙ ap (λ ms. ms ++ given_to g.before) c.first ∙ ap (λ ms. came ++ ms) g.first ∙ append-nil came;
      }

  sent_before : (events before after : List RoomEvent) (said : List ClientMessage) → before ++ after ≡ events → BeginsWith said (sent_from events) → BeginsWith said (sent_from before)
  sent_before events before after said is b = (sent_from after ++ b.0, sym (append_assoc (sent_from before) (sent_from after) b.0) ∙ ap (λ ms. ms ++ b.0) (sym (sent_joined before after) ∙ ap sent_from is) ∙ b.1)

-- what the events of a session say of its messages

pushes_sent : (mine : List RoomEvent) → pushes_of mine ≡ filter_map push_of (sent_in mine)
pushes_sent [] = refl
pushes_sent (Enter number readonly ∷ mine) = pushes_sent mine
pushes_sent (Message number said replied ∷ mine) = ap (cons_option (push_of said)) (pushes_sent mine)
pushes_sent (Drain number given ∷ mine) = pushes_sent mine
pushes_sent (Leave number ∷ mine) = pushes_sent mine

no_ping_sent : (versions : Versions) (mine : List RoomEvent) → AreFine versions (sent_in mine) → list_any is_ping mine ≡ false
no_ping_sent versions [] h = refl
no_ping_sent versions (Enter number readonly ∷ mine) h = no_ping_sent versions mine h
no_ping_sent versions (Message number (say.Connect request reached protocol told) replied ∷ mine) h = no_ping_sent versions mine h.1
no_ping_sent versions (Message number (say.Push client_clock diff presence) replied ∷ mine) h = no_ping_sent versions mine h.1
no_ping_sent versions (Message number say.Ping replied ∷ mine) h = absurd h.0
no_ping_sent versions (Drain number given ∷ mine) h = no_ping_sent versions mine h
no_ping_sent versions (Leave number ∷ mine) h = no_ping_sent versions mine h

told_came : (mine : List RoomEvent) (told : Option ℤ) → fold told_after told mine ≡ fold tells told (given_in mine)
told_came [] told = refl
told_came (Enter number readonly ∷ mine) told = told_came mine told
told_came (Message number said replied ∷ mine) told = told_came mine told
told_came (Drain number None ∷ mine) told = told_came mine told
told_came (Drain number (Some (out.Message m)) ∷ mine) told = told_came mine (tells told m)
told_came (Drain number (Some (out.End reason)) ∷ mine) told = told_came mine told
told_came (Leave number ∷ mine) told = told_came mine told

module _ (schemas : Schemas) (admits : List ℕ → Data → Bool) where
  replica_came : (mine : List RoomEvent) (replica : Replica) → fold (replica_after schemas admits) replica mine ≡ fold (brings schemas admits) replica (given_in mine)
  replica_came [] replica = refl
  replica_came (Enter number readonly ∷ mine) replica = replica_came mine replica
  replica_came (Message number said replied ∷ mine) replica = replica_came mine replica
  replica_came (Drain number None ∷ mine) replica = replica_came mine replica
  replica_came (Drain number (Some (out.Message m)) ∷ mine) replica = replica_came mine (brings schemas admits replica m)
  replica_came (Drain number (Some (out.End reason)) ∷ mine) replica = replica_came mine replica
  replica_came (Leave number ∷ mine) replica = replica_came mine replica

-- a plan, where there is one; else one that isn't empty, along which nobody is told anything
abbrev plan_or : Result Plan EndReason → Plan
plan_or (Ok plan) = plan
plan_or (Err reason) = record { sequence = 0; migration = 0 } ∷ []

or_true : (b : Bool) → (b || true) ≡ true
or_true true = refl
or_true false = refl

module _ (schemas : Schemas) (lawful : AreLawful schemas) (admits : List ℕ → Data → Bool) (versions : Versions) (version : ℕ)
    (same : schemas.plan_for versions ≡ Ok [] → (id : List ℕ) (d : Data) → admits id d ≡ schemas.admits id d) where
  abbrev follower : List Pending → Follower
  follower items = record { request = decimal 0; admits = admits; plan = plan_or (schemas.plan_for versions); base = []; items = items }

  asks_fine : (items : List Pending) (mine : List RoomEvent) → AreFine versions (sent_in mine) → AllAsk schemas (follower items) mine
  asks_fine items [] h = tt
  asks_fine items (Enter number readonly ∷ mine) h = (tt, asks_fine items mine h)
  asks_fine items (Message number (say.Connect request reached protocol told) replied ∷ mine) h =
      ((h.0.1, (λ plan is. sym (ap plan_or (sym (ap schemas.plan_for h.0.2) ∙ is))), h.0.0), asks_fine items mine h.1)
  asks_fine items (Message number (say.Push client_clock diff presence) replied ∷ mine) h = (tt, asks_fine items mine h.1)
  asks_fine items (Message number say.Ping replied ∷ mine) h = absurd h.0
  asks_fine items (Drain number given ∷ mine) h = (tt, asks_fine items mine h)
  asks_fine items (Leave number ∷ mine) h = (tt, asks_fine items mine h)

  plan_admits : (o : Result Plan EndReason) → schemas.plan_for versions ≡ o → plan_or o ≡ [] → (id : List ℕ) (d : Data) → admits id d ≡ schemas.admits id d
  plan_admits (Ok plan) is none id d = same (is ∙ ap Ok none) id d
  plan_admits (Err reason) is none id d = absurd (cc)

  module _ (last : ℕ) (n : ℕ) (items left : List Pending) (works : List Work) (state : ClientState) (said : List ClientMessage) (came : List ServerMessage)
      (h : Is schemas admits versions version items left works state said came) where
    follows : (before : List RoomEvent) → BeginsWith said (sent_from n before) → Follows schemas (follower items) (events_of n before)
    follows before b = record {
      asks = asks_fine items (events_of n before) (fine_first versions (sent_from n before) b.0 (subst (AreFine versions) (sym b.1) h.fine));
      pushes =
          let are : filter_map push_of (sent_from n before) ++ filter_map push_of b.0 ≡ filter_map push_of said = sym (filter_map-append push_of (sent_from n before) b.0) ∙ ap (λ ms. filter_map push_of ms) b.1 in
          subst (ArePushed items) (sym (pushes_sent (events_of n before))) (first_pushed items (filter_map push_of (sent_from n before)) (filter_map push_of b.0) (subst (AllPushed items) (sym are) h.pushed));
      admits = λ none id d. plan_admits (schemas.plan_for versions) refl none id d;
    }

    replica_is : (before : List RoomEvent) → given_to n before ≡ came → replica_of schemas (follower items) (events_of n before) ≡ rep state.base left
    replica_is before first =
        replica_came schemas admits (events_of n before) (rep [] items) ∙ ap (λ ms. fold (brings schemas admits) (rep [] items) ms) first
        ∙ ap (λ all. fold (brings schemas admits) (rep [] all) came) (sym (append-nil items)) ∙ h.replica [] ∙ ap (rep state.base) (append-nil left)

    told_is : (before : List RoomEvent) → given_to n before ≡ came → fold tells None came ≡ told_up_to (events_of n before)
    told_is before first = sym (told_came (events_of n before) None ∙ ap (λ ms. fold tells None ms) first)

    module _ (events : List RoomEvent) (legal : Legal schemas last events) (sends : BeginsWith said (sent_from n events)) where
      module _ (before after : List RoomEvent) where
        connect_so : (message : ServerMessage) (request : List ℕ) → before ++ Drain n (Some (out.Message message)) ∷ after ≡ events → given_to n before ≡ came → request_of message ≡ Some request
            → answer_fault state.client.connection request ≡ None
        connect_so message request is first of_ =
            let b = sent_before n events before (Drain n (Some (out.Message message)) ∷ after) said is sends in
            let e = snapshot_expected schemas lawful last n (follower items) before after message request (subst (Legal schemas last) (sym is) legal) (follows before b) of_ in
            connect_expected items came state.client.reached state.client.connection request h.is_where (told_is before first ∙ e.0) e.1

        data_so : (news : List DataEvent) → before ++ Drain n (Some (out.Message (reply.Data news))) ∷ after ≡ events → given_to n before ≡ came → take_fault state.client (reply.Data news) ≡ None
        data_so news is first =
            let b = sent_before n events before (Drain n (Some (out.Message (reply.Data news))) ∷ after) said is sends in
            let made : Legal schemas last (before ++ Drain n (Some (out.Message (reply.Data news))) ∷ after) = subst (Legal schemas last) (sym is) legal in
            let u = updates_from schemas last before after n news made in
            let results = results_expected schemas lawful last n (follower items) before after news made (follows before b) in
            let of_left : AreResultsOf left news = subst (λ (r : Replica). AreResultsOf r.pending news) (replica_is before first) results in
            data_expected items came state.client.reached state.client.connection u.0 (events_fault state.client.pending state.client.reached news) h.is_where (told_is before first ∙ u.1)
            (λ at.
            ap (λ p. events_fault p state.client.reached news) h.pending
            ∙ events_expected news left works state.client.reached of_left (subst (λ z. AreNotBelow z news) (sym at) (go_on_not_below u.0 news u.2)))

        pong_so : before ++ Drain n (Some (out.Message reply.Pong)) ∷ after ≡ events → ⊥
        pong_so is =
            let b = sends in
            let fine : AreFine versions (sent_from n events) = fine_first versions (sent_from n events) b.0 (subst (AreFine versions) (sym b.1) h.fine) in
            let none : list_any is_pong (events_of n events) ≡ false = no_pong schemas last events n legal (no_ping_sent versions (events_of n events) fine) in
            let event = Drain n (Some (out.Message reply.Pong)) in
            let parts : events_of n events ≡ events_of n before ++ event ∷ events_of n after =
            ap (events_of n) (sym is) ∙ filter-append (λ event. session_of event == n) before (event ∷ after)
            ∙ ap (λ (b : Bool). events_of n before ++ cond b (event ∷ events_of n after) (events_of n after)) ((Decides-eqb n n).1 refl) in
            let some : list_any is_pong (events_of n events) ≡ true =
            ap (list_any is_pong) parts ∙ list_any-append is_pong (events_of n before) (event ∷ events_of n after) ∙ or_true (list_any is_pong (events_of n before)) in
            absurd (cc)

      -- what comes next isn't refused
      pub not_refused : (message : ServerMessage) → BeginsWith (given_to n events) (came ++ message ∷ []) → take_fault state.client message ≡ None
      not_refused (reply.Connect hydration request protocol told diff clock readonly) b =
          let g = given_next n events came (reply.Connect hydration request protocol told diff clock readonly) b in
          connect_so g.before g.after (reply.Connect hydration request protocol told diff clock readonly) request g.is g.first refl
      not_refused (reply.Data news) b = let g = given_next n events came (reply.Data news) b in data_so g.before g.after news g.is g.first
      not_refused reply.Pong b = let g = given_next n events came reply.Pong b in absurd (pong_so g.before g.after g.is)

      -- the base of who took what came
      abbrev HasBase : Plan → ℤ → Type 0
      HasBase plan reached = state.base ≡ whole_for schemas plan n (records_of (up_to reached (state_of schemas last events).history))

      abbrev IsWithin : ℤ → Type 0
      IsWithin reached = (reached ≡ negsuc 0) ⊎ ((clock : ℕ) × (reached ≡ pos clock) × (clock ≤ length (state_of schemas last events).history))

      module _ (gives : BeginsWith (given_to n events) came) where
        abbrev plan_told : Plan
        plan_told = plan_or (schemas.plan_for versions)

        waits_so : came ≡ [] → state.client.reached ≡ negsuc 0 → HasBase plan_told state.client.reached × IsWithin state.client.reached
        waits_so none reached =
            let e : rep [] (items ++ []) ≡ rep state.base (left ++ []) = subst (λ ms. fold (brings schemas admits) (rep [] (items ++ [])) ms ≡ rep state.base (left ++ [])) none (h.replica []) in
            let base : [] ≡ state.base = ap (λ (r : Replica). r.base) e in
            (sym base ∙ sym (ap (λ z. whole_for schemas plan_told n (records_of (up_to z (state_of schemas last events).history))) reached), inl reached)

        open_so : fold tells None came ≡ Some state.client.reached → HasBase plan_told state.client.reached × IsWithin state.client.reached
        open_so told =
            let c = cut n events came gives.0 gives.1 in
            let made : Legal schemas last (c.before ++ c.after) = subst (Legal schemas last) (sym c.is) legal in
            let made_before = legal_before schemas last c.before c.after made in
            let b = sent_before n events c.before c.after said c.is sends in
            let at : told_up_to (events_of n c.before) ≡ Some state.client.reached = sym (told_is c.before c.first) ∙ told in
            let within = told_bounded schemas last c.before n state.client.reached made_before at in
            let clock = within.0 in
            let old = (state_of schemas last c.before).history in
            let all = (state_of schemas last events).history in
            let grows : oldest (length old) all ≡ old = subst (λ es. oldest (length old) (state_of schemas last es).history ≡ old) c.is (history_grows schemas last c.before c.after made) in
            let less : clock ≤ length old = within.2 in
            let oldest_is : oldest clock old ≡ oldest clock all = ap (oldest clock) (sym grows) ∙ oldest_twice clock (length old) all less in
            let replica = client_follows schemas lawful last n (follower items) c.before clock made_before (follows c.before b) (at ∙ ap Some within.1) in
            let base : state.base ≡ whole_for schemas plan_told n (records_of (oldest clock old)) = ap (λ (r : Replica). r.base) (sym (replica_is c.before c.first) ∙ replica) in
            let size : length old ≡ min (length old) (length all) = ap length (sym grows) ∙ length-oldest (length old) all in (
              base ∙ ap (λ m. whole_for schemas plan_told n (records_of m)) oldest_is ∙ sym (ap (λ z. whole_for schemas plan_told n (records_of (up_to z all))) within.1),
              inr (clock, within.1, (omega (arith, less, size))),
            )

        by_where : (c : Connection) → IsWhere c items came state.client.reached → HasBase plan_told state.client.reached × IsWithin state.client.reached
        by_where Off w = absurd w
        by_where (Asking k) w = waits_so w.2 w.3
        by_where (Open k) w = open_so w

        pub has_base : (plan : Plan) → schemas.plan_for versions ≡ Ok plan → HasBase plan state.client.reached
        has_base plan planned = (by_where state.client.connection h.is_where).0 ∙ ap (λ p. whole_for schemas p n (records_of (up_to state.client.reached (state_of schemas last events).history))) (ap plan_or planned)

        pub is_within : IsWithin state.client.reached
        is_within = (by_where state.client.connection h.is_where).1
