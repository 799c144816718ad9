-- That a client which follows its session expects what it is given.
use Rattle.std.proofs.Common.{◌≡◌, ℕ, zero, suc, ◌+◌, ◌-◌, ◌==◌, nat_lt, nat_le, ℤ, pos, Bool, true, false, cond, List, [], ◌∷◌, ◌++◌, drop, count_by, length, slice_get, Option, Some, None, option_map, option_and_then, refl, sym, ap, subst, ◌∙◌, arith}
use Rattle.std.proofs.lemmas.Bool.Decides.{Decides-eqb}
use Rattle.std.proofs.lemmas.List.Sums.{sum_by-cons}
use Rattle.std.proofs.lemmas.Option.{same_Some}
use Rattle.field_ops.specs.RecordOps.{RecordOps}
use Rattle.migrate_seq.specs.Versions.{Versions}
use Rattle.rooms_val.specs.Data.{Data}
use Rattle.room_model.specs.Schemas.{Schemas, AreLawful, Member}
use Rattle.room_model.specs.Taking.{Replica}
use Rattle.room_model.specs.Histories.{History, records_of, oldest, above, is_author, is_by}
use Rattle.room_model.specs.Messages.{result_event, patch_event, event_by, event_of, events_after, bare_result, bare_results, catch_up, snapshot, updates}
use Rattle.room_model.specs.Bases.{AreAnswered}
use Rattle.room_model.specs.Replicas.{Pending}
use Rattle.room_model.specs.Rooms.{Phase, new, asked, live, ended, gone, Session, Room, session_at, Given, next_in, next_for}
use Rattle.room_model.specs.declared.history.Author.{Author}
use Rattle.room_model.specs.declared.history.Entry.{Entry}
use Rattle.room_model.specs.declared.limits.TheConstants.{MOST_TOLD}
use Rattle.room_model.proofs.CallLemmas.{member_of}
use Rattle.room_events.specs.Events.{events_of}
use Rattle.room_events.specs.Following.{Follower, Follows, AreResultsOf, request_of, replica_of}
use Rattle.room_events.specs.Legal.{Legal, state_of}
use Rattle.room_events.specs.Told.{told_up_to}
use Rattle.room_events.specs.declared.room_event.RoomEvent.{RoomEvent}
use Rattle.room_events.specs.declared.room_event.RoomEvent.TheVariants.{Drain}
use Rattle.room_events.proofs.FollowLemmas.{ByPhase, At, left_answered, where_it_is}
use Rattle.room_events.proofs.CallLemmas.{there}
use Rattle.rooms_val.proofs.Truths.{mapped, some_there}
use Rattle.room_events.proofs.LegalLemmas.{middle}
use Rattle.sync_msgs.specs.declared.data_event.Action.TheVariants.{Rebase}
use Rattle.sync_msgs.specs.declared.data_event.DataEvent.{DataEvent}
use Rattle.sync_msgs.specs.declared.data_event.DataEvent.TheVariants.{Patch, PushResult}
use Rattle.sync_msgs.specs.declared.out.Out.TheVariants as out
use Rattle.sync_msgs.specs.declared.server_message.Hydration.{Hydration}
use Rattle.sync_msgs.specs.declared.server_message.ServerMessage.{ServerMessage}
use Rattle.sync_msgs.specs.declared.server_message.ServerMessage.TheVariants as reply

-- how many results are among events
abbrev result : DataEvent → ℕ
result (Patch diff clock) = 0
result (PushResult client_clock clock action) = 1

abbrev results : List DataEvent → ℕ
results [] = 0
results (event ∷ events) = result event + results events

results_joined : (xs ys : List DataEvent) → results (xs ++ ys) ≡ results xs + results ys
results_joined [] ys = omega arith
results_joined (x ∷ xs) ys = let h = results_joined xs ys in omega arith

joined : (items : List Pending) (xs ys : List DataEvent) → AreResultsOf items xs → AreResultsOf (drop (results xs) items) ys → AreResultsOf items (xs ++ ys)
joined items [] ys h k = k
joined items (Patch diff clock ∷ xs) ys h k = joined items xs ys h (let e : 0 + results xs ≡ results xs = omega arith in subst (λ c. AreResultsOf (drop c items) ys) e k)
joined [] (PushResult client_clock clock action ∷ xs) ys h k = absurd h
joined (item ∷ items) (PushResult client_clock clock action ∷ xs) ys h k =
    (h.0, joined items xs ys h.1 (let e : 1 + results xs ≡ suc (results xs) = omega arith in subst (λ c. AreResultsOf (drop c (item ∷ items)) ys) e k))

-- a result is that of the item at a place
one_result : (items : List Pending) (place : ℕ) (item : Pending) (client_clock clock : ℤ) (event : DataEvent) → slice_get items place ≡ Some item → option_map pos item.sent_as ≡ Some client_clock
    → (action : _) → event ≡ PushResult client_clock clock action → AreResultsOf (drop place items) (event ∷ [])
one_result [] place item client_clock clock event at number action is = absurd (cc)
one_result (x ∷ items) zero item client_clock clock event at number action is =
    let same : x ≡ item = cc in
    subst (λ e. AreResultsOf (x ∷ items) (e ∷ [])) (sym is) (ap (λ (i : Pending). option_map pos i.sent_as) same ∙ number, tt)
one_result (x ∷ items) (suc place) item client_clock clock event at number action is = one_result items place item client_clock clock event at number action is

module _ (schemas : Schemas) (member : Member) where
  abbrev is_mine : Entry → Bool
  is_mine entry = is_by member.session entry

  abbrev mine : List Entry → ℕ
  mine entries = count_by is_mine entries

  mine_cons : (entry : Entry) (entries : List Entry) → mine (entry ∷ entries) ≡ cond (is_mine entry) 1 0 + mine entries
  mine_cons entry entries = sum_by-cons (λ e. cond (is_mine e) 1 0) entry entries

  -- an entry as it is told: a result of the item at its place, if it is the session's own
  record IsTold (items : List Pending) (entry : Entry) (place : ℕ) (events : List DataEvent) : Type 0 where
    is : AreResultsOf (drop place items) events
    count : results events ≡ cond (is_mine entry) 1 0

  told_by_author : (items : List Pending) (entry : Entry) (entries : List Entry) (own_event : (author : Author) → DataEvent) (others : List DataEvent)
      → ((author : Author) → (clock : ℤ) × (action : _) × (own_event author ≡ PushResult author.client_clock clock action)) → AreResultsOf (drop (mine entries) items) others → results others ≡ 0
      → AreAnswered schemas member.session items (entry ∷ entries)
      → (o : Option Author) → entry.author ≡ o → (events : List DataEvent)
      → ((author : Author) → o ≡ Some author → events ≡ cond (author.session == member.session) (own_event author ∷ []) others) → (o ≡ None → events ≡ others)
      → IsTold items entry (mine entries) events
  told_by_author items entry entries own_event others says nothing none answered None author_is events some else =
      let same = else refl in
      record { is = subst (AreResultsOf (drop (mine entries) items)) (sym same) nothing; count = ap results same ∙ none ∙ sym (ap (λ o. cond (is_author member.session o) 1 0) author_is) }
  told_by_author items entry entries own_event others says nothing none answered (Some author) author_is events some else =
      let mine_is : is_mine entry ≡ (author.session == member.session) = ap (is_author member.session) author_is in
      elim (author.session == member.session) as (λ b. (author.session == member.session) ≡ b → events ≡ cond b (own_event author ∷ []) others → is_mine entry ≡ b → IsTold items entry (mine entries) events) [
        | true ↦ λ own same by.
            let answer = answered.0 author author_is ((Decides-eqb author.session member.session).0 own) in
            let said = says author in
            let one = one_result items (mine entries) answer.item author.client_clock said.0 (own_event author) answer.there answer.number said.1 said.2 in
            let size : results (own_event author ∷ []) ≡ 1 = ap (λ e. result e + 0) said.2 in
            record { is = subst (AreResultsOf (drop (mine entries) items)) (sym same) one; count = ap results same ∙ size ∙ sym (ap (λ (b : Bool). cond {A = ℕ} b 1 0) by) }
        | false ↦ λ own same by.
            record { is = subst (AreResultsOf (drop (mine entries) items)) (sym same) nothing; count = ap results same ∙ none ∙ sym (ap (λ (b : Bool). cond {A = ℕ} b 1 0) by) }
      ] refl (some author refl) mine_is

  -- the events by entries
  by_entries : (sent : ℕ) (history : History) (items : List Pending) → AreAnswered schemas member.session items (above sent history)
      → AreResultsOf items (events_after schemas member sent history) × (results (events_after schemas member sent history) ≡ mine (above sent history))
  by_entries sent [] items answered = (tt, refl)
  by_entries sent (entry ∷ history) items answered =
      let entries = above sent history in
      let before = events_after schemas member sent history in
      let m = records_of (entry ∷ history) in
      let clock = suc (length history) in
      let event = event_of schemas member entry history in
      elim (nat_lt (length history) sent) as (λ b. AreAnswered schemas member.session items (cond b [] (entry ∷ entries))
      → AreResultsOf items (cond b [] (before ++ event ∷ [])) × (results (cond b [] (before ++ event ∷ [])) ≡ mine (cond b [] (entry ∷ entries)))) [
        | true ↦ λ answered. (tt, refl)
        | false ↦ λ answered.
            let rest = by_entries sent history items answered.1 in
            let patch = patch_event schemas member m clock entry.diff in
            let one = told_by_author items entry entries (result_event schemas member m clock) (patch ∷ []) (λ author. (_, _, refl)) tt refl answered entry.author refl (event ∷ [])
            (λ author is. ap (λ o. event_by schemas member m clock entry.diff o ∷ []) is ∙ either_way (author.session == member.session) (result_event schemas member m clock author) patch)
            (λ is. ap (λ o. event_by schemas member m clock entry.diff o ∷ []) is) in
            let place : AreResultsOf (drop (results before) items) (event ∷ []) = subst (λ c. AreResultsOf (drop c items) (event ∷ [])) (sym rest.1) one.is in
            let size = results_joined before (event ∷ []) in
            let more = mine_cons entry entries in
            (joined items before (event ∷ []) rest.0 place, size ∙ ap (λ c. c + results (event ∷ [])) rest.1 ∙ ap (λ c. mine entries + c) one.count ∙ (let e : mine entries + cond (is_mine entry) 1 0 ≡ cond (is_mine entry) 1 0 + mine entries = omega arith in e) ∙ sym more)
      ] answered
    where
      either_way : (b : Bool) (x y : DataEvent) → cond b x y ∷ [] ≡ cond b (x ∷ []) (y ∷ [])
      either_way true x y = refl
      either_way false x y = refl

  -- the results of a catch-up
  by_results : (clock : ℕ) (entries : List Entry) (items : List Pending) → AreAnswered schemas member.session items entries
      → AreResultsOf items (bare_results schemas member clock entries) × (results (bare_results schemas member clock entries) ≡ mine entries)
  by_results clock [] items answered = (tt, refl)
  by_results clock (entry ∷ entries) items answered =
      let before = bare_results schemas member clock entries in
      let events = bare_result schemas member clock entry.author in
      let rest = by_results clock entries items answered.1 in
      let one = told_by_author items entry entries (λ author. PushResult author.client_clock (pos clock) (Rebase [])) [] (λ author. (_, _, refl)) tt refl answered entry.author refl events
      (λ author is. ap (bare_result schemas member clock) is) (λ is. ap (bare_result schemas member clock) is) in
      let place : AreResultsOf (drop (results before) items) events = subst (λ c. AreResultsOf (drop c items) events) (sym rest.1) one.is in
      let size = results_joined before events in
      let more = mine_cons entry entries in
      (joined items before events rest.0 place, size ∙ ap (λ c. c + results events) rest.1 ∙ ap (λ c. mine entries + c) one.count ∙ (let e : mine entries + cond (is_mine entry) 1 0 ≡ cond (is_mine entry) 1 0 + mine entries = omega arith in e) ∙ sym more)

  -- the results in updates
  in_updates : (sent : ℕ) (history : History) (items : List Pending) (told : List DataEvent) → AreAnswered schemas member.session items (above sent history)
      → updates schemas member sent history ≡ reply.Data told → AreResultsOf items told
  in_updates sent history items told answered is =
      let clock = length history in
      let entries = above sent history in
      elim (nat_le (length history - sent) MOST_TOLD) as (λ b. reply.Data (cond b (events_after schemas member sent history) (catch_up schemas member sent history)) ≡ reply.Data told → AreResultsOf items told) [
        | true ↦ λ is. let same : events_after schemas member sent history ≡ told = cc in subst (AreResultsOf items) same (by_entries sent history items answered).0
        | false ↦ λ is.
            let same : catch_up schemas member sent history ≡ told = cc in
            subst (AreResultsOf items) same (joined items (bare_results schemas member clock entries) (Patch _ (pos clock) ∷ []) (by_results clock entries items answered).0 tt)
      ] is

-- who is given a message of the room is where it comes from
module _ (schemas : Schemas) (room : Room) (n : ℕ) (s : Session) where
  abbrev Tells : ServerMessage → Phase → Type 0
  Tells (reply.Connect hydration request protocol versions diff clock readonly) (asked asking reached plan) = request ≡ asking
  Tells (reply.Connect hydration request protocol versions diff clock readonly) phase = ⊥
  Tells (reply.Data told) (live sent plan) = updates schemas (member_of n s plan) sent room.history ≡ reply.Data told
  Tells (reply.Data told) phase = ⊥
  Tells reply.Pong phase = Unit {0}

  abbrev GivesSo : ServerMessage → Option Given → Type 0
  GivesSo message None = Unit {0}
  GivesSo message (Some given) = given.out ≡ out.Message message → Tells message s.phase

  same_message : (a b : ServerMessage) → out.Message a ≡ out.Message b → a ≡ b
  same_message a b e = cc

  so_if : (message : ServerMessage) (b : Bool) (given : Given) (o : Option Given) → GivesSo message (Some given) → GivesSo message o → GivesSo message (cond b (Some given) o)
  so_if message true given o h k = h
  so_if message false given o h k = k

  pong_so : (message : ServerMessage) (phase : Phase) → out.Message reply.Pong ≡ out.Message message → Tells message phase
  pong_so message phase is = subst (λ m. Tells m phase) (same_message reply.Pong message is) tt

  given_so : (message : ServerMessage) (phase : Phase) → s.phase ≡ phase → GivesSo message (next_in schemas room n s phase)
  given_so message new is = so_if message (nat_lt 0 s.pings) _ None (pong_so message s.phase) tt
  given_so message (asked request reached plan) is = λ same.
      let answer = snapshot schemas (member_of n s plan) request reached room.first room.history in
      subst (λ m. Tells m s.phase) (same_message answer message same) (subst (Tells answer) (sym is) refl)
  given_so message (live sent plan) is =
      let news = updates schemas (member_of n s plan) sent room.history in
      so_if message (nat_lt 0 s.pings) _ _ (pong_so message s.phase)
      (so_if message (nat_lt sent (length room.history)) _ None
      (λ same. subst (λ m. Tells m s.phase) (same_message news message same) (subst (Tells news) (sym is) refl))
      tt)
  given_so message (ended reason true) is = tt
  given_so message (ended reason false) is = λ same. absurd (cc)
  given_so message gone is = tt

module _ (schemas : Schemas) (lawful : AreLawful schemas) (last : ℕ) (n : ℕ) (client : Follower) (before after : List RoomEvent) where
  -- the session that is given a message
  given_at : (message : ServerMessage) → Legal schemas last (before ++ Drain n (Some (out.Message message)) ∷ after)
      → Legal schemas last before × ((s : Session) × (slice_get (state_of schemas last before).sessions n ≡ Some s) × Tells schemas (state_of schemas last before) n s message s.phase)
  given_at message legal =
      let room = state_of schemas last before in
      let m = middle schemas last before after (Drain n (Some (out.Message message))) legal in
      let h = some_there (session_at n room) m.1.0 in
      let it = there room n h.0 h.1 in
      let given = mapped (λ given. given.out) (next_for schemas room n) (out.Message message) m.1.1 in
      let next : next_in schemas room n h.0 h.0.phase ≡ Some given.0 = sym (ap (option_and_then (λ session. next_in schemas room n session session.phase)) h.1) ∙ given.1 in
      let tells : GivesSo schemas room n h.0 message (Some given.0) = subst (GivesSo schemas room n h.0 message) next (given_so schemas room n h.0 message h.0.phase refl) in
      (m.0, (h.0, it.at, tells given.2))

  by_phase : (events : List RoomEvent) (legal : Legal schemas last events) (is : Follows schemas client (events_of n events)) (s : Session) → slice_get (state_of schemas last events).sessions n ≡ Some s
      → ByPhase schemas lawful n client is.admits (where_it_is schemas lawful last n client events legal is).0 (told_up_to (events_of n events)) (count_by (is_by n) (state_of schemas last events).history) (Some s.phase)
  by_phase events legal is s at =
      let w = where_it_is schemas lawful last n client events legal is in
      subst (ByPhase schemas lawful n client is.admits w.0 (told_up_to (events_of n events)) (count_by (is_by n) (state_of schemas last events).history)) (ap (option_map (λ s. s.phase)) at) w.1.phase

  asked_so : (room : Room) (s : Session) (admits : client.plan ≡ [] → (id : List ℕ) (d : Data) → client.admits id d ≡ schemas.admits id d) (k : ℕ) (told : Option ℤ)
      (hydration : Hydration) (request : List ℕ) (protocol : ℤ) (versions : Versions) (diff : RecordOps) (clock : ℤ) (readonly : Bool) (phase : Phase)
      → ByPhase schemas lawful n client admits k told (count_by (is_by n) room.history) (Some phase)
      → Tells schemas room n s (reply.Connect hydration request protocol versions diff clock readonly) phase → (told ≡ None) × (request ≡ client.request)
  asked_so room s admits k told hydration request protocol versions diff clock readonly new by tells = absurd tells
  asked_so room s admits k told hydration request protocol versions diff clock readonly (asked asking reached plan) by tells = (by.0, tells ∙ by.5)
  asked_so room s admits k told hydration request protocol versions diff clock readonly (live sent plan) by tells = absurd tells
  asked_so room s admits k told hydration request protocol versions diff clock readonly (ended reason said) by tells = absurd tells
  asked_so room s admits k told hydration request protocol versions diff clock readonly gone by tells = absurd tells

  pub snapshot_expected : (told : ServerMessage) (request : List ℕ) → Legal schemas last (before ++ Drain n (Some (out.Message told)) ∷ after) → Follows schemas client (events_of n before)
      → request_of told ≡ Some request → (told_up_to (events_of n before) ≡ None) × (request ≡ client.request)
  snapshot_expected (reply.Connect hydration asked_for protocol versions diff clock readonly) request legal is of_ =
      let g = given_at (reply.Connect hydration asked_for protocol versions diff clock readonly) legal in
      let h = asked_so (state_of schemas last before) g.1.0 is.admits _ (told_up_to (events_of n before)) hydration asked_for protocol versions diff clock readonly g.1.0.phase
      (by_phase before g.0 is g.1.0 g.1.1) g.1.2 in
      (h.0, sym (same_Some asked_for request of_) ∙ h.1)
  snapshot_expected (reply.Data news) request legal is of_ = absurd (cc)
  snapshot_expected reply.Pong request legal is of_ = absurd (cc)

  live_so : (room : Room) (s : Session) (admits : client.plan ≡ [] → (id : List ℕ) (d : Data) → client.admits id d ≡ schemas.admits id d) (k : ℕ) (told : Option ℤ) (replica : Replica) (news : List DataEvent)
      (phase : Phase) → At schemas lawful n client admits room k told replica → ByPhase schemas lawful n client admits k told (count_by (is_by n) room.history) (Some phase)
      → Tells schemas room n s (reply.Data news) phase → AreResultsOf replica.pending news
  live_so room s admits k told replica news new it by tells = absurd tells
  live_so room s admits k told replica news (asked asking reached plan) it by tells = absurd tells
  live_so room s admits k told replica news (live sent plan) it by tells =
      let base = it.base sent by.0 in
      subst (λ items. AreResultsOf items news) (sym (ap (λ (r : Replica). r.pending) base.1))
      (in_updates schemas (member_of n s plan) sent room.history (drop (count_by (is_by n) (oldest sent room.history)) client.items) news
      (left_answered schemas n client.items sent room.history it.answered) tells)
  live_so room s admits k told replica news (ended reason said) it by tells = absurd tells
  live_so room s admits k told replica news gone it by tells = absurd tells

  pub results_expected : (news : List DataEvent) → Legal schemas last (before ++ Drain n (Some (out.Message (reply.Data news))) ∷ after) → Follows schemas client (events_of n before)
      → AreResultsOf (replica_of schemas client (events_of n before)).pending news
  results_expected news legal is =
      let g = given_at (reply.Data news) legal in
      live_so (state_of schemas last before) g.1.0 is.admits _ (told_up_to (events_of n before)) (replica_of schemas client (events_of n before)) news g.1.0.phase
      (where_it_is schemas lawful last n client before g.0 is).1 (by_phase before g.0 is g.1.0 g.1.1) g.1.2
