-- How a client on a session fares: what it said and what came of it, and that to take a message is what a replica makes of it.
use Rattle.std.proofs.Common.{◌≡◌, inl, inr, ℕ, zero, suc, nat_lt, ◌≤◌, ℤ, pos, negsuc, Bool, true, false, ◌&&◌, cond, List, [], ◌∷◌, ◌++◌, length, map, Option, Some, None, option_map, refl, sym, ap, subst, ◌∙◌, append-nil, append_assoc, arith}
use Rattle.std.specs.Prelude.{fold, filter_map, find, is_none, decimal, int_lt, option_to_list}
use Rattle.std.specs.Option.{option_map_or, option_or}
use Rattle.std.proofs.lemmas.List.{map-append}
use Rattle.std.proofs.lemmas.List.Elements.{filter_map-append}
use Rattle.std.proofs.lemmas.List.Sums.{fold-append}
use Rattle.std.proofs.lemmas.Option.{same_Some}
use Rattle.std.proofs.lemmas.Slice.Eq.{bytes_eq-Decides}
use Rattle.rooms_val.proofs.Truths.{lt_false}
use Rattle.rooms_val.specs.Data.{Data, Pairs}
use Rattle.doc_model.specs.Documents.{step}
use Rattle.field_ops.specs.RecordOps.{RecordOps}
use Rattle.migrate_seq.specs.Versions.{Versions}
use Rattle.room_model.specs.Accepting.{Push}
use Rattle.room_model.specs.Closing.{push_of}
use Rattle.room_model.specs.Replicas.{Work, edit, presence, Pending, Client, is_open, new_client, push_of as push_by, Pushing, push_none, unsent, first_unsent, send_first, push_one, next_push, push_times, push_all, all_unsent, pending_diffs}
use Rattle.room_model.specs.Schemas.{Schemas}
use Rattle.room_model.specs.Taking.{Replica, first_diff, result_diff, after_events, after_hydration}
use Rattle.room_model.specs.declared.connection.Connection.{Connection}
use Rattle.room_model.specs.declared.connection.Connection.TheVariants.{Off, Asking, Open}
use Rattle.room_model.specs.declared.limits.TheConstants.{MOST_PUSHES}
use Rattle.room_events.specs.Following.{IsPushOf, ArePushed, AreResultsOf, replica_given}
use Rattle.room_events.specs.Told.{clock_of, told_by, EachNext, AllAt, GoOnFrom}
use Rattle.sync_client.specs.Calls.{ClientState, asking, asks, opened, replica_of, after_message}
use Rattle.sync_client.specs.Faults.{clock_fault, event_fault, clock_after, events_fault, answer_fault, open_fault, take_fault}
use Rattle.sync_client.specs.declared.fault.TakeFault.{TakeFault}
use Rattle.sync_client.specs.declared.fault.TakeFault.TheVariants.{WrongRequest, ClockBack}
use Rattle.sync_client.proofs.FaultLemmas.{number-expected}
use Rattle.sync_msgs.specs.declared.client_message.ClientMessage.{ClientMessage}
use Rattle.sync_msgs.specs.declared.client_message.ClientMessage.TheVariants as say
use Rattle.sync_msgs.specs.declared.data_event.Action.{Action}
use Rattle.sync_msgs.specs.declared.data_event.DataEvent.{DataEvent}
use Rattle.sync_msgs.specs.declared.data_event.DataEvent.TheVariants.{Patch, PushResult}
use Rattle.sync_msgs.specs.declared.out.Out.TheVariants as out
use Rattle.sync_msgs.specs.declared.server_message.Hydration.{Hydration}
use Rattle.sync_msgs.specs.declared.server_message.ServerMessage.{ServerMessage}
use Rattle.sync_msgs.specs.declared.server_message.ServerMessage.TheVariants as reply

-- items that were pushed

-- these are the pushes of these items, in order
abbrev pub AllPushed : List Pending → List Push → Type 0
AllPushed [] [] = Unit {0}
AllPushed [] (push ∷ pushes) = ⊥
AllPushed (item ∷ items) [] = ⊥
AllPushed (item ∷ items) (push ∷ pushes) = IsPushOf item push × AllPushed items pushes

pushed_more : (items : List Pending) (pushes : List Push) (item : Pending) (push : Push) → AllPushed items pushes → IsPushOf item push → AllPushed (items ++ item ∷ []) (pushes ++ push ∷ [])
pushed_more [] [] item push h k = (k, tt)
pushed_more [] (p ∷ pushes) item push h k = absurd h
pushed_more (i ∷ items) [] item push h k = absurd h
pushed_more (i ∷ items) (p ∷ pushes) item push h k = (h.0, pushed_more items pushes item push h.1 k)

-- the first of them are those of the first items
pub first_pushed : (items : List Pending) (pushes more : List Push) → AllPushed items (pushes ++ more) → ArePushed items pushes
first_pushed items [] more h = tt
first_pushed [] (push ∷ pushes) more h = absurd h
first_pushed (item ∷ items) (push ∷ pushes) more h = (h.0, first_pushed items pushes more h.1)

-- each item was sent
abbrev pub AreSent : List Pending → Type 0
AreSent [] = Unit {0}
AreSent (item ∷ items) = ((n : ℕ) × (item.sent_as ≡ Some n)) × AreSent items

sent_more : (items : List Pending) (item : Pending) (n : ℕ) → item.sent_as ≡ Some n → AreSent items → AreSent (items ++ item ∷ [])
sent_more [] item n is h = ((n, is), tt)
sent_more (i ∷ items) item n is h = (h.0, sent_more items item n is h.1)

abbrev first_of : List Work → Option Work
first_of [] = None
first_of (work ∷ works) = Some work

abbrev sent_item : ℕ → Work → Pending
sent_item n work = record { work = work; sent_as = Some n }

first_left : (left : List Pending) (works : List Work) → AreSent left → first_unsent (left ++ all_unsent works) ≡ first_of works
first_left [] [] h = refl
first_left [] (work ∷ works) h = refl
first_left (item ∷ left) works h =
    let no : is_none item.sent_as ≡ false = ap is_none h.0.1 in
    ap (λ b. option_map (λ (i : Pending). i.work) (cond b (Some item) (find (λ (i : Pending). is_none i.sent_as) (left ++ all_unsent works)))) no ∙ first_left left works h.1

sent_left : (n : ℕ) (left : List Pending) (work : Work) (works : List Work) → AreSent left → send_first n (left ++ all_unsent (work ∷ works)) ≡ left ++ sent_item n work ∷ all_unsent works
sent_left n [] work works h = refl
sent_left n (item ∷ left) work works h =
    let no : is_none item.sent_as ≡ false = ap is_none h.0.1 in
    let rest = left ++ all_unsent (work ∷ works) in
    ap (λ b. cond b (record item { sent_as = Some n } ∷ rest) (item ∷ send_first n rest)) no ∙ ap (λ items. item ∷ items) (sent_left n left work works h.1)

-- what is next to be pushed

next_same : (c : Client) (p : Pushing) → next_push c ≡ Some p → (is_open c.connection ≡ true) × ((work : Work) × (first_unsent c.pending ≡ Some work) × (p ≡ push_one c work))
next_same c p is =
    elim (is_open c.connection) as (λ o. cond (o && nat_lt c.pushes MOST_PUSHES) (option_map (push_one c) (first_unsent c.pending)) None ≡ Some p → (o ≡ true) × ((work : Work) × (first_unsent c.pending ≡ Some work) × (p ≡ push_one c work))) [
      | true ↦ elim (nat_lt c.pushes MOST_PUSHES) as (λ b. cond b (option_map (push_one c) (first_unsent c.pending)) None ≡ Some p → (true ≡ true) × ((work : Work) × (first_unsent c.pending ≡ Some work) × (p ≡ push_one c work))) [
        | true ↦ elim (first_unsent c.pending) as (λ o. option_map (push_one c) o ≡ Some p → (true ≡ true) × ((work : Work) × (o ≡ Some work) × (p ≡ push_one c work))) [
          | None ↦ λ same. absurd (cc)
          | Some work ↦ λ same. let it : push_one c work ≡ p = cc in (refl, (work, refl, sym it))
        ]
        | false ↦ λ same. absurd (cc)
      ]
      | false ↦ λ same. absurd (cc)
    ] is

pushed_so : (n : ℕ) (work : Work) → (push : Push) × (filter_map push_of (push_by n work ∷ []) ≡ push ∷ []) × IsPushOf (sent_item n work) push
pushed_so n (edit diff) = (_, refl, (refl, refl))
pushed_so n (presence d) = (_, refl, (refl, refl))

-- how a client fares

-- a replica by its parts
abbrev pub rep : Pairs → List Pending → Replica
rep base pending = record { base = base; pending = pending }

-- up to which clock a client was told once a message came
abbrev pub tells : Option ℤ → ServerMessage → Option ℤ
tells told message = told_by told (Some (out.Message message))

-- where it is, with the items that it pushed and what came
abbrev pub IsWhere : Connection → List Pending → List ServerMessage → ℤ → Type 0
IsWhere Off items came reached = ⊥
IsWhere (Asking n) items came reached = (n ≡ 0) × (items ≡ []) × (came ≡ []) × (reached ≡ negsuc 0)
IsWhere (Open n) items came reached = fold tells None came ≡ Some reached

-- a message is one that such a client says
abbrev pub IsFine : Versions → ClientMessage → Type 0
IsFine versions (say.Connect request reached protocol told) = (request ≡ decimal 0) × (reached ≡ negsuc 0) × (told ≡ versions)
IsFine versions (say.Push client_clock diff shown) = Unit {0}
IsFine versions say.Ping = ⊥

abbrev pub AreFine : Versions → List ClientMessage → Type 0
AreFine versions [] = Unit {0}
AreFine versions (message ∷ messages) = IsFine versions message × AreFine versions messages

pub fine_joined : (versions : Versions) (xs ys : List ClientMessage) → AreFine versions xs → AreFine versions ys → AreFine versions (xs ++ ys)
fine_joined versions [] ys h k = k
fine_joined versions (x ∷ xs) ys h k = (h.0, fine_joined versions xs ys h.1 k)

pub fine_first : (versions : Versions) (xs ys : List ClientMessage) → AreFine versions (xs ++ ys) → AreFine versions xs
fine_first versions [] ys h = tt
fine_first versions (x ∷ xs) ys h = (h.0, fine_first versions xs ys h.1)

fine_push : (versions : Versions) (n : ℕ) (work : Work) → IsFine versions (push_by n work)
fine_push versions n (edit diff) = tt
fine_push versions n (presence d) = tt

or_none : {X : Type 0} (a b : Option X) → option_or a b ≡ None → b ≡ None
or_none None b is = is
or_none (Some x) b is = absurd (cc)

-- what a client does by itself
pub record Adds (before after : ClientState) : Type 0 where
  pub base : after.base ≡ before.base
  pub connection : after.client.connection ≡ before.client.connection
  pub reached : after.client.reached ≡ before.client.reached
  pub of_version : after.client.version ≡ before.client.version
  pub works : List Work
  pub pending : after.client.pending ≡ before.client.pending ++ all_unsent works

module _ (schemas : Schemas) (admits : List ℕ → Data → Bool) where
  -- what a message makes of a replica
  abbrev pub brings : Replica → ServerMessage → Replica
  brings replica message = replica_given schemas admits replica (Some (out.Message message))

  module _ (versions : Versions) (version : ℕ) where
    -- it said so much and so much came: it pushed these items, of which these are left, and these works are still to be pushed
    pub record Is (items left : List Pending) (works : List Work) (state : ClientState) (said : List ClientMessage) (came : List ServerMessage) : Type 0 where
      pub pushed : AllPushed items (filter_map push_of said)
      pub fine : AreFine versions said
      pub are_sent : AreSent left
      pub pending : state.client.pending ≡ left ++ all_unsent works
      -- what came makes this of the replica of a client whose items these are, whatever it will push later
      pub replica : (more : List Pending) → fold brings (rep [] (items ++ more)) came ≡ rep state.base (left ++ more)
      pub is_where : IsWhere state.client.connection items came state.client.reached
      pub of_version : state.client.version ≡ version

    abbrev pub Fares : ClientState → List ClientMessage → List ServerMessage → Type 0
    Fares state said came = (items : List Pending) × (left : List Pending) × (works : List Work) × Is items left works state said came

    -- who has asked
    pub fares_first : (message : ClientMessage) → message ≡ asks versions 0 (new_client version) → Fares (record { base = []; client = asking 0 (new_client version) }) (message ∷ []) []
    fares_first message is = (
      [],
      [],
      [],
      record {
        pushed = subst (λ m. AllPushed [] (filter_map push_of (m ∷ []))) (sym is) tt;
        fine = subst (λ m. AreFine versions (m ∷ [])) (sym is) ((refl, refl, refl), tt);
        are_sent = tt;
        pending = refl;
        replica = λ more. refl;
        is_where = (refl, refl, refl, refl);
        of_version = refl;
      },
    )

    module _ (said : List ClientMessage) (came : List ServerMessage) where
      pub fares_adding : (before after : ClientState) → Adds before after → Fares before said came → Fares after said came
      fares_adding before after adds f =
          let items = f.0 in
          let left = f.1 in
          let works = f.2 in
          let h = f.3 in (
            items,
            left,
            works ++ adds.works,
            record {
              pushed = h.pushed;
              fine = h.fine;
              are_sent = h.are_sent;
              pending = adds.pending ∙ ap (λ p. p ++ all_unsent adds.works) h.pending ∙ append_assoc left (all_unsent works) (all_unsent adds.works)
                  ∙ ap (λ rest. left ++ rest) (sym (map-append unsent works adds.works));
              replica = λ more. h.replica more ∙ ap (λ b. rep b (left ++ more)) (sym adds.base);
              is_where = subst (λ z. IsWhere after.client.connection items came z) (sym adds.reached) (subst (λ c. IsWhere c items came before.client.reached) (sym adds.connection) h.is_where);
              of_version = adds.of_version ∙ h.of_version;
            },
          )

      -- a push
      pushed_where : (c : Connection) (items later : List Pending) (reached : ℤ) → is_open c ≡ true → IsWhere c items came reached → IsWhere c later came reached
      pushed_where Off items later reached opened h = absurd h
      pushed_where (Asking n) items later reached opened h = absurd (cc)
      pushed_where (Open n) items later reached opened h = h

      one_pushed : (items left : List Pending) (works : List Work) (state : ClientState) (work : Work) → is_open state.client.connection ≡ true → first_unsent state.client.pending ≡ Some work
          → Is items left works state said came → Fares (record state { client = (push_one state.client work).client }) (said ++ (push_one state.client work).messages) came
      one_pushed items left [] state work opened first h =
          let none : first_unsent state.client.pending ≡ None = ap first_unsent h.pending ∙ first_left left [] h.are_sent in
          absurd (cc)
      one_pushed items left (next ∷ works) state work opened first h =
          let n = suc state.client.pushes in
          let same : next ≡ work = same_Some next work (sym (ap first_unsent h.pending ∙ first_left left (next ∷ works) h.are_sent) ∙ first) in
          let item = sent_item n work in
          let p = pushed_so n work in
          let now : send_first n state.client.pending ≡ left ++ item ∷ all_unsent works =
          ap (send_first n) h.pending ∙ sent_left n left next works h.are_sent ∙ ap (λ w. left ++ sent_item n w ∷ all_unsent works) same in (
            items ++ item ∷ [],
            left ++ item ∷ [],
            works,
            record {
              pushed = subst (AllPushed (items ++ item ∷ [])) (sym (filter_map-append push_of said (push_by n work ∷ []) ∙ ap (λ ps. filter_map push_of said ++ ps) p.1))
                  (pushed_more items (filter_map push_of said) item p.0 h.pushed p.2);
              fine = fine_joined versions said (push_by n work ∷ []) h.fine (fine_push versions n work, tt);
              are_sent = sent_more left item n refl h.are_sent;
              pending = now ∙ sym (append_assoc left (item ∷ []) (all_unsent works));
              replica = λ more.
                  ap (λ all. fold brings (rep [] all) came) (append_assoc items (item ∷ []) more) ∙ h.replica (item ∷ more)
                  ∙ ap (rep state.base) (sym (append_assoc left (item ∷ []) more));
              is_where = pushed_where state.client.connection items (items ++ item ∷ []) state.client.reached opened h.is_where;
              of_version = h.of_version;
            },
          )

    fares_pushing : (n : ℕ) (state : ClientState) (said : List ClientMessage) (came : List ServerMessage) → Fares state said came
        → Fares (record state { client = (push_times n state.client).client }) (said ++ (push_times n state.client).messages) came
    fares_pushing zero state said came f = subst (λ all. Fares state all came) (sym (append-nil said)) f
    fares_pushing (suc n) state said came f =
        let After : Pushing → Type 0 = λ p. Fares (record state { client = p.client }) (said ++ p.messages) came in
        elim (next_push state.client) as (λ o. next_push state.client ≡ o → After (option_map_or (λ one. let more = push_times n one.client in record more { messages = one.messages ++ more.messages }) o (push_none state.client))) [
          | None ↦ λ is. subst (λ all. Fares state all came) (sym (append-nil said)) f
          | Some p ↦ λ is.
              let next = next_same state.client p is in
              let one : After p = subst After (sym next.1.2) (one_pushed said came f.0 f.1 f.2 state next.1.0 next.0 next.1.1 f.3) in
              let rest = fares_pushing n (record state { client = p.client }) (said ++ p.messages) came one in
              subst (λ all. Fares (record state { client = (push_times n p.client).client }) all came) (append_assoc said p.messages (push_times n p.client).messages) rest
        ] refl

    -- all that it can push
    pub fares_saying : (state : ClientState) (said : List ClientMessage) (came : List ServerMessage) → Fares state said came
        → Fares (record state { client = (push_all state.client).client }) (said ++ (push_all state.client).messages) came
    fares_saying state said came f = fares_pushing (length state.client.pending) state said came f

    -- what events make of a replica whose first items are those that were sent
    record IsTold (base : Pairs) (left : List Pending) (events : List DataEvent) : Type 0 where
      base_now : Pairs
      left_now : List Pending
      are_sent : AreSent left_now
      is : (more : List Pending) → after_events admits (rep base (left ++ more)) events ≡ rep base_now (left_now ++ more)

    no_item : (works : List Work) (number clock reached : ℤ) (action : Action) (events : List DataEvent) → events_fault (all_unsent works) reached (PushResult number clock action ∷ events) ≡ None → ⊥
    no_item [] number clock reached action events none = absurd (cc)
    no_item (work ∷ works) number clock reached action events none = absurd (cc)

    events_taken : (events : List DataEvent) (base : Pairs) (left : List Pending) (works : List Work) (reached : ℤ) → AreSent left → events_fault (left ++ all_unsent works) reached events ≡ None → IsTold base left events
    events_taken [] base left works reached sent none = record { base_now = base; left_now = left; are_sent = sent; is = λ more. refl }
    events_taken (Patch diff clock ∷ events) base left works reached sent none =
        let rest = or_none (clock_fault reached clock) (events_fault (left ++ all_unsent works) clock events) none in
        let t = events_taken events (step admits base diff) left works clock sent rest in
        record { base_now = t.base_now; left_now = t.left_now; are_sent = t.are_sent; is = t.is }
    events_taken (PushResult number clock action ∷ events) base [] works reached sent none = absurd (no_item works number clock reached action events none)
    events_taken (PushResult number clock action ∷ events) base (item ∷ left) works reached sent none =
        let rest = or_none (event_fault item.sent_as reached (PushResult number clock action)) (events_fault (left ++ all_unsent works) clock events) none in
        let t = events_taken events (step admits base (result_diff (first_diff (item ∷ left)) action)) left works clock sent.1 rest in
        record { base_now = t.base_now; left_now = t.left_now; are_sent = t.are_sent; is = t.is }

    told_clock : (events : List DataEvent) (reached : ℤ) → fold (λ (before : Option ℤ) event. Some (clock_of event)) (Some reached) events ≡ Some (clock_after reached events)
    told_clock [] reached = refl
    told_clock (Patch diff clock ∷ events) reached = told_clock events clock
    told_clock (PushResult number clock action ∷ events) reached = told_clock events clock

    -- a message is taken
    module _ (items left : List Pending) (works : List Work) (state : ClientState) (said : List ClientMessage) (came : List ServerMessage) (h : Is items left works state said came) where
      where_at : (c : Connection) → state.client.connection ≡ c → IsWhere c items came state.client.reached
      where_at c is = subst (λ c. IsWhere c items came state.client.reached) is h.is_where

      connect_taken : (hydration : Hydration) (request : List ℕ) (protocol : ℤ) (told : Versions) (diff : RecordOps) (clock : ℤ) (readonly : Bool) (c : Connection) → state.client.connection ≡ c
          → answer_fault c request ≡ None → let message = reply.Connect hydration request protocol told diff clock readonly in Fares (after_message admits schemas.is_document state message) said (came ++ message ∷ [])
      connect_taken hydration request protocol told diff clock readonly Off is none = absurd (cc)
      connect_taken hydration request protocol told diff clock readonly (Asking n) is none =
          let message = reply.Connect hydration request protocol told diff clock readonly in
          let w = where_at (Asking n) is in
          let e : rep [] (items ++ []) ≡ rep state.base (left ++ []) = subst (λ ms. fold brings (rep [] (items ++ [])) ms ≡ rep state.base (left ++ [])) w.2 (h.replica []) in
          let base : [] ≡ state.base = ap (λ (r : Replica). r.base) e in (
            [],
            [],
            map edit (pending_diffs state.client) ++ map presence (option_to_list state.client.presence),
            record {
              pushed = subst (λ is. AllPushed is (filter_map push_of said)) w.1 h.pushed;
              fine = h.fine;
              are_sent = tt;
              pending = refl;
              replica = λ more. ap (λ ms. fold brings (rep [] more) (ms ++ message ∷ [])) w.2 ∙ ap (λ b. rep (after_hydration admits schemas.is_document b hydration diff) more) base;
              is_where = subst (λ c. IsWhere (opened c) [] (came ++ message ∷ []) clock) (sym is) (fold-append tells None came (message ∷ []));
              of_version = h.of_version;
            },
          )
      connect_taken hydration request protocol told diff clock readonly (Open n) is none = absurd (cc)

      data_taken : (events : List DataEvent) (c : Connection) → state.client.connection ≡ c → open_fault c (events_fault state.client.pending state.client.reached events) ≡ None
          → Fares (after_message admits schemas.is_document state (reply.Data events)) said (came ++ reply.Data events ∷ [])
      data_taken events Off is none = absurd (cc)
      data_taken events (Asking n) is none = absurd (cc)
      data_taken events (Open n) is none =
          let message = reply.Data events in
          let w = where_at (Open n) is in
          let t = events_taken events state.base left works state.client.reached h.are_sent (subst (λ p. events_fault p state.client.reached events ≡ None) h.pending none) in
          let e : after_events admits (replica_of state) events ≡ rep t.base_now (t.left_now ++ all_unsent works) = ap (λ p. after_events admits (rep state.base p) events) h.pending ∙ t.is (all_unsent works) in (
            items,
            t.left_now,
            works,
            record {
              pushed = h.pushed;
              fine = h.fine;
              are_sent = t.are_sent;
              pending = ap (λ (r : Replica). r.pending) e;
              replica = λ more.
                  fold-append brings (rep [] (items ++ more)) came (message ∷ []) ∙ ap (λ r. brings r message) (h.replica more) ∙ t.is more
                  ∙ ap (λ b. rep b (t.left_now ++ more)) (sym (ap (λ (r : Replica). r.base) e));
              is_where = subst (λ c. IsWhere c items (came ++ message ∷ []) (clock_after state.client.reached events)) (sym is)
                  (fold-append tells None came (message ∷ []) ∙ ap (λ o. tells o message) w ∙ told_clock events state.client.reached);
              of_version = h.of_version;
            },
          )

      pong_taken : (c : Connection) → state.client.connection ≡ c → open_fault c None ≡ None → Fares state said (came ++ reply.Pong ∷ [])
      pong_taken Off is none = absurd (cc)
      pong_taken (Asking n) is none = absurd (cc)
      pong_taken (Open n) is none =
          let w = where_at (Open n) is in (
            items,
            left,
            works,
            record {
              pushed = h.pushed;
              fine = h.fine;
              are_sent = h.are_sent;
              pending = h.pending;
              replica = λ more. fold-append brings (rep [] (items ++ more)) came (reply.Pong ∷ []) ∙ h.replica more;
              is_where = subst (λ c. IsWhere c items (came ++ reply.Pong ∷ []) state.client.reached) (sym is) (fold-append tells None came (reply.Pong ∷ []) ∙ w);
              of_version = h.of_version;
            },
          )

    pub fares_taking : (state : ClientState) (said : List ClientMessage) (came : List ServerMessage) (message : ServerMessage) → take_fault state.client message ≡ None → Fares state said came
        → Fares (after_message admits schemas.is_document state message) said (came ++ message ∷ [])
    fares_taking state said came (reply.Connect hydration request protocol told diff clock readonly) none f =
        connect_taken f.0 f.1 f.2 state said came f.3 hydration request protocol told diff clock readonly state.client.connection refl none
    fares_taking state said came (reply.Data events) none f = data_taken f.0 f.1 f.2 state said came f.3 events state.client.connection refl none
    fares_taking state said came reply.Pong none f = pong_taken f.0 f.1 f.2 state said came f.3 state.client.connection refl none

-- what is expected isn't refused

-- no clock of events lies below the one reached, or that of the event before
abbrev pub AreNotBelow : ℤ → List DataEvent → Type 0
AreNotBelow reached [] = Unit {0}
AreNotBelow reached (event ∷ events) = (int_lt (clock_of event) reached ≡ false) × AreNotBelow (clock_of event) events

next_not_below : (n : ℕ) (events : List DataEvent) → EachNext n events → AreNotBelow (pos n) events
next_not_below n [] h = tt
next_not_below n (event ∷ events) h = (
  ap (λ z. int_lt z (pos n)) h.0 ∙ lt_false (suc n) n (omega arith),
  subst (λ z. AreNotBelow z events) (sym h.0) (next_not_below (suc n) events h.1),
)

same_not_below : (reached : ℕ) (to : ℕ) (events : List DataEvent) → reached ≤ to → AllAt to events → AreNotBelow (pos reached) events
same_not_below reached to [] less h = tt
same_not_below reached to (event ∷ events) less h = (
  ap (λ z. int_lt z (pos reached)) h.0 ∙ lt_false to reached less,
  subst (λ z. AreNotBelow z events) (sym h.0) (same_not_below to to events (omega arith) h.1),
)

pub go_on_not_below : (clock : ℕ) (events : List DataEvent) → GoOnFrom clock events → AreNotBelow (pos clock) events
go_on_not_below clock events (inl next) = next_not_below clock events next
go_on_not_below clock events (inr all) = let less = all.1 in same_not_below clock all.0 events (omega (arith, less)) all.2

pub events_expected : (events : List DataEvent) (left : List Pending) (works : List Work) (reached : ℤ) → AreResultsOf left events → AreNotBelow reached events → events_fault (left ++ all_unsent works) reached events ≡ None
events_expected [] left works reached results rise = refl
events_expected (Patch diff clock ∷ events) left works reached results rise =
    ap (λ (b : Bool). option_or (cond {A = Option TakeFault} b (Some (ClockBack reached clock)) None) (events_fault (left ++ all_unsent works) clock events)) rise.0
    ∙ events_expected events left works clock results rise.1
events_expected (PushResult number clock action ∷ events) [] works reached results rise = absurd results
events_expected (PushResult number clock action ∷ events) (item ∷ left) works reached results rise =
    ap (λ (o : Option TakeFault). option_or (option_or o (clock_fault reached clock)) (events_fault (left ++ all_unsent works) clock events)) (number-expected item.sent_as number results.0)
    ∙ ap (λ (b : Bool). option_or (cond {A = Option TakeFault} b (Some (ClockBack reached clock)) None) (events_fault (left ++ all_unsent works) clock events)) rise.0
    ∙ events_expected events left works clock results.1 rise.1

module _ (items : List Pending) (came : List ServerMessage) (reached : ℤ) where
  pub connect_expected : (c : Connection) (request : List ℕ) → IsWhere c items came reached → fold tells None came ≡ None → request ≡ decimal 0 → answer_fault c request ≡ None
  connect_expected Off request w told is = absurd w
  connect_expected (Asking n) request w told is =
      ap (λ (b : Bool). cond {A = Option TakeFault} b None (Some WrongRequest)) ((bytes_eq-Decides request (decimal n)).1 (is ∙ ap decimal (sym w.0)))
  connect_expected (Open n) request w told is = absurd (let e = w in cc)

  pub data_expected : (c : Connection) (clock : ℕ) (fault : Option TakeFault) → IsWhere c items came reached → fold tells None came ≡ Some (pos clock) → (reached ≡ pos clock → fault ≡ None) → open_fault c fault ≡ None
  data_expected Off clock fault w told is = absurd w
  data_expected (Asking n) clock fault w told is =
      let none : fold tells None came ≡ None = ap (λ ms. fold tells None ms) w.2 in
      absurd (cc)
  data_expected (Open n) clock fault w told is = is (same_Some reached (pos clock) (sym w ∙ told))
