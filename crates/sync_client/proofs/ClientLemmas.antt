-- What a client stands for after its calls.
use Rattle.std.proofs.Common.{◌≡◌, ◌≤◌, ◌<◌, ◌+◌, ◌-◌, ℕ, suc, ℤ, List, [], ◌∷◌, ◌++◌, length, map, drop, Bool, true, false, cond, ◌&&◌, Option, Some, None, option_map, slice_get, Result, Ok, Err, refl, sym, ap, subst, ◌∙◌, arith}
use Rattle.std.specs.Prelude.{filter_map, decimal, option_to_list, unwrap_or, nat_lt, nat_le, is_none, sum_by, OnErr}
use Rattle.std.proofs.lemmas.List.{map-append, drop-drop, length-append, length-map, length-drop}
use Rattle.std.proofs.lemmas.Option.{slice_get_within}
use Rattle.std.proofs.lemmas.List.Sums.{sum_by-cons}
use Rattle.rooms_val.specs.Data.{Data, Pairs}
use Rattle.rooms_val.specs.View.{data_of}
use Rattle.rooms_val.specs.declared.val.Val.{Val}
use Rattle.field_ops.specs.View.{maybe_data}
use Rattle.field_ops.specs.RecordOps.{RecordOps}
use Rattle.sync_msgs.specs.declared.data_event.DataEvent.{DataEvent}
use Rattle.sync_msgs.specs.declared.data_event.DataEvent.TheVariants.{Patch, PushResult}
use Rattle.migrate_seq.specs.Versions.{Versions}
use Rattle.sync_msgs.specs.declared.client_message.ClientMessage.TheVariants as said
use Rattle.sync_msgs.specs.declared.server_message.Hydration.{Hydration}
use Rattle.sync_msgs.specs.declared.end_reason.EndReason.{EndReason}
use Rattle.sync_msgs.specs.declared.end_reason.EndReason.TheVariants.{ClientTooOld, ServerTooOld, InvalidRecord, RoomFull, Slow}
use Rattle.room_model.specs.declared.connection.Connection.{Connection}
use Rattle.room_model.specs.declared.connection.Connection.TheVariants.{Off, Asking, Open}
use Rattle.room_model.specs.declared.limits.TheConstants.{MOST_PUSHES, PROTOCOL}
use Rattle.room_model.specs.declared.fault.ConnectFault.TheVariants.{AlreadyOpen, Refused}
use Rattle.std.specs.Option.{option_map_or}
use Rattle.doc_model.specs.Documents.{replay}
use Rattle.room_model.specs.Schemas.{records_with}
use Rattle.room_model.specs.Replicas as model
use Rattle.room_model.specs.Replicas.{Work, edit, presence, Pending, Client, Pushing, diff_in, is_open, unsent, all_unsent, first_unsent, send_first, pending_diffs, next_push, push_one, push_none, push_of, session_of, after_cut, after_end}
use Rattle.room_model.specs.Taking.{Replica, after_event, after_events}
use Rattle.client_replica.specs.declared.replica.Replica as code
use Rattle.client_replica.specs.Works.{work_of, works_in, diffs_in, ended_by}
use Rattle.client_replica.specs.Standing as replica
use Rattle.client_replica.specs.Standing.{admits_of, document_of}
use Rattle.client_replica.proofs.WorkLemmas.{works-append, works-unsent, diffs-edits, works-drop}
use Rattle.sync_client.specs.Numbers.{numbered}
use Rattle.sync_client.specs.Calls.{ClientState, replica_of, connect_fault, asking, asks, pushed, opened, after_answer, hydrated, updated}
use Rattle.sync_client.specs.Faults.{clock_after, answer_fault}
use Rattle.sync_client.specs.Presences.{with_presence}
use Rattle.sync_client.specs.Standing.{Stands}
use Rattle.sync_client.specs.declared.client.SyncClient.{SyncClient}
use Rattle.sync_client.specs.declared.counts.Counts.{Counts}
use Rattle.sync_client.proofs.NumberLemmas.{diffs-pending, first_unsent-numbered, sent-numbered, numbered-append, numbered-drop}

pub on_err : {T E A B : Type 0} (r : Result T E) → (A → B) → OnErr r A → OnErr r B
on_err (Ok x) f a = a
on_err (Err e) f a = f a

pub if_err : {T E A : Type 0} (r : Result T E) → A → OnErr r A
if_err (Ok x) a = tt
if_err (Err e) a = a

-- edits that weren't sent are the diffs that they have
unsent_diffs : (diffs : List RecordOps) → filter_map (λ item. diff_in item.work) (all_unsent (map edit diffs)) ≡ diffs
unsent_diffs diffs = diffs-pending (all_unsent (map edit diffs)) ∙ ap diffs_in (works-unsent (map edit diffs)) ∙ diffs-edits diffs

-- a further edit that wasn't sent
closed_more : (items : List Pending) (diffs : List RecordOps) (diff : RecordOps) → items ≡ all_unsent (map edit diffs)
    → items ++ unsent (edit diff) ∷ [] ≡ all_unsent (map edit (filter_map (λ item. diff_in item.work) (items ++ unsent (edit diff) ∷ [])))
closed_more items diffs diff are =
    let more : items ++ unsent (edit diff) ∷ [] ≡ all_unsent (map edit (diffs ++ diff ∷ [])) =
    ap (λ xs. xs ++ unsent (edit diff) ∷ []) are ∙ sym (map-append unsent (map edit diffs) (edit diff ∷ [])) ∙ ap all_unsent (sym (map-append edit diffs (diff ∷ []))) in
    more ∙ ap (λ ds. all_unsent (map edit ds)) (sym (ap (filter_map (λ item. diff_in item.work)) more ∙ unsent_diffs (diffs ++ diff ∷ [])))

works-sent : (number : ℕ) (items : List Pending) → works_in (send_first number items) ≡ works_in items
works-sent number [] = refl
works-sent number (item ∷ items) =
    elim (is_none item.sent_as) as (λ b. works_in (cond b (record item { sent_as = Some number } ∷ items) (item ∷ send_first number items)) ≡ works_in (item ∷ items)) [
      | true ↦ refl
      | false ↦ ap (λ ws. item.work ∷ ws) (works-sent number items)
    ]

opposite : true ≡ false → ⊥
opposite is = absurd cc

one_ended : (admits : List ℕ → Data → Bool) (replica : Replica) (event : DataEvent) → (after_event admits replica event).pending ≡ drop (ended_by event) replica.pending
one_ended admits replica (Patch diff clock) = refl
one_ended admits replica (PushResult client clock action) = refl

-- an event ends as many items as it is said to
pub ended-drop : (admits : List ℕ → Data → Bool) (replica : Replica) (events : List DataEvent) → (after_events admits replica events).pending ≡ drop (sum_by ended_by events) replica.pending
ended-drop admits replica [] = refl
ended-drop admits replica (event ∷ events) =
    ended-drop admits (after_event admits replica event) events ∙ ap (drop (sum_by ended_by events)) (one_ended admits replica event) ∙ drop-drop (sum_by ended_by events) (ended_by event) replica.pending
    ∙ ap (λ n. drop n replica.pending) (sym (sum_by-cons ended_by event events))

pub not_le : (m n : ℕ) → nat_le m n ≡ false → nat_lt n m ≡ true
not_le m n is = grind arith

-- the end of a session leaves a client as the loss of its connection does, but for the reason for which it is refused
pub end_is : (reason : EndReason) (client : Client) → record (after_cut client) { refused = (after_end reason client).refused } ≡ after_end reason client
end_is ClientTooOld client = refl
end_is ServerTooOld client = refl
end_is InvalidRecord client = refl
end_is RoomFull client = refl
end_is Slow client = refl

shut_by : (connection : Connection) (refused : Option EndReason) → option_map_or (λ session. Some AlreadyOpen) (session_of connection) (option_map (λ reason. Refused reason) refused) ≡ None → is_open connection ≡ false
shut_by Off refused none = refl
shut_by (Asking session) refused none = refl
shut_by (Open session) refused none = absurd cc

none_pushed : (client : Client) → next_push client ≡ None → pushed client ≡ push_none client
none_pushed client none = ap (λ o. unwrap_or o (push_none client)) none

none_both : {X : Type 0} (b : Bool) (o : Option X) → o ≡ None → cond b o None ≡ None
none_both true o is = is
none_both false o is = refl

-- a client asked of which an answer isn't at fault
pub asked_by : (connection : Connection) (request : List ℕ) → None ≡ answer_fault connection request → (session : ℕ) × (connection ≡ Asking session)
asked_by Off request none = absurd cc
asked_by (Asking session) request none = (session, refl)
asked_by (Open session) request none = absurd cc

module _ {D : Type 0} where
  -- a replica stands for the works of its pending items, whatever their numbers
  same_works : (records : D → Pairs) (base : Pairs) (items more : List Pending) (r : code.Replica D) → works_in more ≡ works_in items → replica.Stands records (record { base = base; pending = items }) r
      → replica.Stands records (record { base = base; pending = more }) r
  same_works records base items more r same stands = (
    record {
      works_are = stands.0.works_are ∙ sym same;
      shown = stands.0.shown;
      stash_is = stands.0.stash_is;
      others_are = stands.0.others_are;
      rising = stands.0.rising;
    },
    stands.1,
  )

  -- its pending works
  abbrev pub works_of : SyncClient D → List Work
  works_of c = map work_of c.replica.works.items

  -- a further work is pending
  pub after_work : (records : D → Pairs) (state : ClientState) (c : SyncClient D) (r : code.Replica D) (work : Work) → Stands records state c → replica.Stands records (replica.with_work work (replica_of state)) r
      → (is_open state.client.connection ≡ false → (diff : RecordOps) × (work ≡ edit diff)) → Stands records (record state { client = model.with_work work state.client }) (record c { replica = r })
  after_work records state c r work stands next only =
      let first = suc (c.counts.pushes - c.counts.sent) in
      let works = works_of c in
      let more : map work_of r.works.items ≡ works ++ work ∷ [] =
      next.0.works_are ∙ works-append state.client.pending (unsent work ∷ []) ∙ ap (λ ws. ws ++ work ∷ []) (sym stands.replica.0.works_are) in
      let many : c.counts.sent ≤ length works = let same = length-map c.replica.works.items work_of in let sent = stands.sent in omega arith in
      record {
        replica = next;
        connection = stands.connection;
        reached = stands.reached;
        presence = stands.presence;
        refused = stands.refused;
        pushes = stands.pushes;
        pending = ap (λ items. items ++ unsent work ∷ []) stands.pending ∙ sym (numbered-append first c.counts.sent works work many) ∙ ap (numbered first c.counts.sent) (sym more);
        sent =
            let left = sym (length-map r.works.items work_of) ∙ ap length more ∙ length-append works (work ∷ []) in
            let one : length (work ∷ []) ≡ 1 = refl in
            omega arith;
        closed = λ shut.
            let one = only shut in
            let was = stands.closed shut in
            subst (λ w. state.client.pending ++ unsent w ∷ [] ≡ all_unsent (map edit (filter_map (λ item. diff_in item.work) (state.client.pending ++ unsent w ∷ [])))) (sym one.1)
            (closed_more state.client.pending (pending_diffs state.client) one.0 was);
      }

  -- what is next to be pushed is the first work that wasn't sent
  next_is : (records : D → Pairs) (state : ClientState) (c : SyncClient D) → Stands records state c → next_push state.client
      ≡ cond (is_open state.client.connection && nat_lt state.client.pushes MOST_PUSHES) (option_map (push_one state.client) (slice_get (works_of c) c.counts.sent)) None
  next_is records state c stands =
      ap (λ o. cond (is_open state.client.connection && nat_lt state.client.pushes MOST_PUSHES) (option_map (push_one state.client) o) None)
      (ap first_unsent stands.pending ∙ first_unsent-numbered (suc (c.counts.pushes - c.counts.sent)) c.counts.sent (works_of c))

  -- a client of which all is sent pushes nothing
  pub sent_pushes : (records : D → Pairs) (state : ClientState) (c : SyncClient D) → Stands records state c → slice_get (works_of c) c.counts.sent ≡ None → pushed state.client ≡ push_none state.client
  sent_pushes records state c stands none =
      none_pushed state.client (next_is records state c stands
      ∙ none_both (is_open state.client.connection && nat_lt state.client.pushes MOST_PUSHES) (option_map (push_one state.client) (slice_get (works_of c) c.counts.sent)) (ap (option_map (push_one state.client)) none))

  -- any other pushes the first work that wasn't sent
  pub pushes_one : (records : D → Pairs) (state : ClientState) (c : SyncClient D) (work : Work) → Stands records state c → is_open state.client.connection ≡ true → nat_lt state.client.pushes MOST_PUSHES ≡ true
      → slice_get (works_of c) c.counts.sent ≡ Some work → pushed state.client ≡ push_one state.client work
  pushes_one records state c work stands joined few there =
      ap (λ o. unwrap_or o (push_none state.client))
      (next_is records state c stands
      ∙ (λ i. cond (joined i && few i) (option_map (push_one state.client) (there i)) None))

  pub after_push : (records : D → Pairs) (state : ClientState) (c : SyncClient D) (counts : Counts) (work : Work) → Stands records state c → is_open state.client.connection ≡ true
      → slice_get (works_of c) c.counts.sent ≡ Some work → counts.pushes ≡ c.counts.pushes + 1 → counts.sent ≡ c.counts.sent + 1
      → Stands records (record state { client = (push_one state.client work).client }) (record c { counts = counts })
  after_push records state c counts work stands joined there pushes sent =
      let works = works_of c in
      let first = suc (c.counts.pushes - c.counts.sent) in
      let less : c.counts.sent < length works = slice_get_within works c.counts.sent work there in
      let within = c.counts.within in
      let number : suc state.client.pushes ≡ first + c.counts.sent = let same = stands.pushes in omega arith in
      record {
        replica = same_works records state.base state.client.pending (send_first (suc state.client.pushes) state.client.pending) c.replica (works-sent (suc state.client.pushes) state.client.pending) stands.replica;
        connection = stands.connection;
        reached = stands.reached;
        presence = stands.presence;
        refused = stands.refused;
        pushes = let same = stands.pushes in omega arith;
        pending = ap (send_first (suc state.client.pushes)) stands.pending ∙ sent-numbered first c.counts.sent works (suc state.client.pushes) less number
            ∙ (λ i. numbered ((let it : first ≡ suc (counts.pushes - counts.sent) = omega arith in it) i) ((let it : suc c.counts.sent ≡ counts.sent = omega arith in it) i) works);
        sent = let same = length-map c.replica.works.items work_of in omega arith;
        closed = λ shut. absurd (opposite (sym joined ∙ shut));
      }

  -- a client whose connection is lost, for a reason or none
  pub after_loss : (records : D → Pairs) (state : ClientState) (c : SyncClient D) (r : code.Replica D) (counts : Counts) (refused : Option EndReason) → Stands records state c
      → replica.Stands records (replica.alone (document_of c.replica) (replica_of state)) r → counts.pushes ≡ c.counts.pushes → counts.sent ≡ 0
      → Stands records (record { base = records_with (document_of c.replica) state.base; client = record (after_cut state.client) { refused = refused } }) (record c { replica = r; connection = Off; counts = counts; refused = refused })
  after_loss records state c r counts refused stands next pushes sent =
      let diffs = pending_diffs state.client in
      let items = all_unsent (map edit diffs) in
      let same : items ≡ all_unsent (map edit (diffs_in (works_in state.client.pending))) = ap (λ ds. all_unsent (map edit ds)) (diffs-pending state.client.pending) in
      let now = same_works records (records_with (document_of c.replica) state.base) (all_unsent (map edit (diffs_in (works_in state.client.pending)))) items r (ap works_in same) next in
      record {
        replica = now;
        connection = refl;
        reached = stands.reached;
        presence = stands.presence;
        refused = refl;
        pushes = pushes ∙ stands.pushes;
        pending = ap all_unsent (sym (works-unsent (map edit diffs)) ∙ sym now.0.works_are) ∙ ap (λ n. numbered (suc (counts.pushes - n)) n (map work_of r.works.items)) (sym sent);
        sent = let none = sent in omega arith;
        closed = λ shut. ap (λ ds. all_unsent (map edit ds)) (sym (unsent_diffs diffs));
      }

  -- a client whose request was answered
  pub after_snapshot : (records : D → Pairs) (state : ClientState) (c : SyncClient D) (r : code.Replica D) (counts : Counts) (session : ℕ) (hydration : Hydration) (diff : RecordOps) (clock now : ℤ) (own : Option Data) (connection : Connection) → Stands records state c
      → state.client.connection ≡ Asking session → now ≡ clock → connection ≡ opened c.connection → own ≡ maybe_data c.presence
      → replica.Stands records (replica.after_snapshot (admits_of c.replica) (document_of c.replica) hydration diff own (replica_of state)) r → counts.pushes ≡ c.counts.pushes → counts.sent ≡ 0
      → Stands records (hydrated (admits_of c.replica) (document_of c.replica) hydration diff clock state) (record c { replica = r; connection = connection; reached = now; counts = counts })
  after_snapshot records state c r counts session hydration diff clock now own connection stands asks now_is opened_is own_is next pushes sent =
      let client = state.client in
      let was = stands.closed (ap is_open asks) in
      let works : works_in client.pending ≡ map edit (pending_diffs client) = ap works_in was ∙ works-unsent (map edit (pending_diffs client)) in
      let items = (after_answer clock client).pending in
      let same : works_in items ≡ works_in (all_unsent (works_in client.pending ++ map presence (option_to_list own))) =
      (λ i. works_in (all_unsent (sym works i ++ map presence (option_to_list ((sym stands.presence ∙ sym own_is) i))))) in
      let now = same_works records (hydrated (admits_of c.replica) (document_of c.replica) hydration diff clock state).base (all_unsent (works_in client.pending ++ map presence (option_to_list own))) items r same next in
      let all = map edit (pending_diffs client) ++ map presence (option_to_list client.presence) in
      record {
        replica = now;
        connection = opened_is ∙ ap opened stands.connection;
        reached = now_is;
        presence = stands.presence;
        refused = stands.refused;
        pushes = pushes ∙ stands.pushes;
        pending = ap all_unsent (sym (works-unsent all) ∙ sym now.0.works_are) ∙ ap (λ n. numbered (suc (counts.pushes - n)) n (map work_of r.works.items)) (sym sent);
        sent = let none = sent in omega arith;
        closed = λ shut. absurd (opposite (ap is_open (sym (ap opened asks)) ∙ shut));
      }

  -- a client that took events
  pub after_data : (records : D → Pairs) (state : ClientState) (c : SyncClient D) (r : code.Replica D) (counts : Counts) (events : List DataEvent) (clock : ℤ) → Stands records state c → is_open state.client.connection ≡ true
      → replica.Stands records (after_events (admits_of c.replica) (replica_of state) events) r → clock ≡ clock_after c.reached events → counts.pushes ≡ c.counts.pushes → counts.sent + sum_by ended_by events ≡ c.counts.sent
      → Stands records (updated (admits_of c.replica) (document_of c.replica) events state) (record c { replica = r; reached = clock; counts = counts })
  after_data records state c r counts events clock stands joined next clock_is pushes sent =
      let n = sum_by ended_by events in
      let first = suc (c.counts.pushes - c.counts.sent) in
      let works = works_of c in
      let within = c.counts.within in
      let many = let same = length-map c.replica.works.items work_of in let was = stands.sent in let it : c.counts.sent ≤ length works = omega arith in it in
      let ended = ended-drop (admits_of c.replica) (replica_of state) events in
      let left : map work_of r.works.items ≡ drop n works = next.0.works_are ∙ ap works_in ended ∙ works-drop n state.client.pending ∙ ap (drop n) (sym stands.replica.0.works_are) in
      record {
        replica = next;
        connection = stands.connection;
        reached = clock_is ∙ ap (λ z. clock_after z events) stands.reached;
        presence = stands.presence;
        refused = stands.refused;
        pushes = pushes ∙ stands.pushes;
        pending = ended ∙ ap (drop n) stands.pending ∙ numbered-drop first c.counts.sent n works counts.sent sent
            ∙ (λ i. numbered ((let it : first + n ≡ suc (counts.pushes - counts.sent) = omega arith in it) i) counts.sent (sym left i));
        sent =
            let same = length-map r.works.items work_of in
            let size = ap length left ∙ length-drop n works in
            omega arith;
        closed = λ shut. absurd (opposite (sym joined ∙ shut));
      }

  -- the replica came to stand for the same
  pub still : (records : D → Pairs) (state : ClientState) (c : SyncClient D) (r : code.Replica D) → Stands records state c → replica.Stands records (replica_of state) r → Stands records state (record c { replica = r })
  still records state c r stands next =
      let same : works_of c ≡ map work_of r.works.items = stands.replica.0.works_are ∙ sym next.0.works_are in
      record {
        replica = next;
        connection = stands.connection;
        reached = stands.reached;
        presence = stands.presence;
        refused = stands.refused;
        pushes = stands.pushes;
        pending = stands.pending ∙ ap (numbered (suc (c.counts.pushes - c.counts.sent)) c.counts.sent) same;
        sent =
            let was = stands.sent in
            let old = length-map c.replica.works.items work_of in
            let new = length-map r.works.items work_of in
            let size = ap length same in
            omega arith;
        closed = stands.closed;
      }

  -- a client that could connect asks
  pub after_ask : (records : D → Pairs) (state : ClientState) (c : SyncClient D) (request : ℕ) → Stands records state c → connect_fault state.client ≡ None → Stands records (record state { client = asking request state.client }) (record c { connection = Asking request })
  after_ask records state c request stands none = record {
    replica = stands.replica;
    connection = refl;
    reached = stands.reached;
    presence = stands.presence;
    refused = stands.refused;
    pushes = stands.pushes;
    pending = stands.pending;
    sent = stands.sent;
    closed = λ shut. stands.closed (shut_by state.client.connection state.client.refused none);
  }

  -- what it shows
  pub shows : (records : D → Pairs) (state : ClientState) (c : SyncClient D) → Stands records state c → records c.replica.store ≡ replay (admits_of c.replica) (records_with (document_of c.replica) state.base) (pending_diffs state.client)
  shows records state c stands =
      stands.replica.0.shown ∙ ap (replay (admits_of c.replica) (records_with (document_of c.replica) state.base)) (ap diffs_in stands.replica.0.works_are ∙ sym (diffs-pending state.client.pending))

  -- it has a presence of its own
  with_own : (records : D → Pairs) (state : ClientState) (c : SyncClient D) (own : Option Val) (d : Data) → Stands records state c → maybe_data own ≡ Some d
      → Stands records (record state { client = record state.client { presence = Some d } }) (record c { presence = own })
  with_own records state c own d stands own_is = record {
    replica = stands.replica;
    connection = stands.connection;
    reached = stands.reached;
    presence = own_is;
    refused = stands.refused;
    pushes = stands.pushes;
    pending = stands.pending;
    sent = stands.sent;
    closed = stands.closed;
  }

  -- set on a connection it is pending
  pub own_open : (records : D → Pairs) (state : ClientState) (c : SyncClient D) (r : code.Replica D) (stored : Val) → Stands records state c → is_open state.client.connection ≡ true
      → replica.Stands records (replica.with_work (presence (data_of stored)) (replica_of state)) r
      → Stands records (record state { client = with_presence (data_of stored) state.client }) (record c { replica = r; presence = Some stored })
  own_open records state c r stored stands joined next =
      let set = record state.client { presence = Some (data_of stored) } in
      subst (λ client. Stands records (record state { client = client }) (record c { replica = r; presence = Some stored })) (sym (ap (λ b. cond b (model.with_work (presence (data_of stored)) set) set) joined))
      (with_own records (record state { client = model.with_work (presence (data_of stored)) state.client }) (record c { replica = r }) (Some stored) (data_of stored)
      (after_work records state c r (presence (data_of stored)) stands next (λ shut. absurd (opposite (sym joined ∙ shut)))) refl)

-- what a client sends that asks
pub answer_is : (client : Client) (reached : ℤ) (request : ℕ) (versions : Versions) → client.reached ≡ reached → asks versions request client ≡ said.Connect (decimal request) reached PROTOCOL versions
answer_is client reached request versions is = ap (λ z. said.Connect (decimal request) z PROTOCOL versions) is
