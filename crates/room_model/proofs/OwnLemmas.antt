-- What a session is given names no presence of its own.
use Rattle.std.proofs.Common.{◌≡◌, ℕ, suc, ◌-◌, nat_lt, nat_le, ◌==◌, ℤ, pos, Bool, true, false, cond, not, List, [], ◌∷◌, ◌++◌, length, map, filter, fold, Option, Some, None, refl, sym, ap, subst, ◌∙◌}
use Rattle.std.specs.List.{list_all}
use Rattle.std.proofs.lemmas.List.Folds.{list_all-append}
use Rattle.std.proofs.lemmas.Slice.Eq.{bytes_eq-Decides}
use Rattle.rooms_val.specs.Data.{Data, Pairs}
use Rattle.field_ops.specs.RecordOps.{RecordOpTree, put, RecordOps}
use Rattle.rooms_val.specs.Maps.{with_key}
use Rattle.room_model.specs.Schemas.{Schemas, AreLawful, Member, presence_id, is_own, doc, pres}
use Rattle.room_model.specs.Histories.{History, records_of, changed_after, above, start_of}
use Rattle.room_model.specs.Messages.{except_own, known_clock, told_op, told_diff, told_action, result_event, patch_event, event_by, event_of, events_after, bare_result, bare_results, state_op, changes_after, catch_up, updates, others_of, document_diff, snapshot}
use Rattle.room_model.specs.Naming.{action_diff, event_diff, names_others, tells_others, gives_others}
use Rattle.room_model.specs.Rooms.{Phase, new, asked, live, ended, gone, Session, Room, session_at, Given, pong, updates_between, pong_or, next_in, next_for}
use Rattle.room_model.specs.declared.history.Author.{Author}
use Rattle.room_model.specs.declared.limits.TheConstants.{MOST_TOLD}
use Rattle.room_model.proofs.ActingLemmas.{differ, all-with_key, presence_apart}
use Rattle.rooms_val.proofs.Truths.{and_left, and_right, and_true}
use Rattle.room_model.proofs.CallLemmas.{member_of, chained}
use Rattle.sync_msgs.specs.declared.data_event.Action.{Action}
use Rattle.sync_msgs.specs.declared.data_event.Action.TheVariants.{Commit, Discard, Rebase}
use Rattle.sync_msgs.specs.declared.data_event.DataEvent.{DataEvent}
use Rattle.sync_msgs.specs.declared.data_event.DataEvent.TheVariants.{PushResult}
use Rattle.sync_msgs.specs.declared.out.Out.TheVariants.{Message}
use Rattle.sync_msgs.specs.declared.server_message.ServerMessage.TheVariants as reply

module _ {X : Type 0} where
  -- what a filter keeps passes each test that its own implies
  all-filter : (test keep : X → Bool) → ((x : X) → keep x ≡ true → test x ≡ true) → (xs : List X) → list_all test (filter keep xs) ≡ true
  all-filter test keep passes [] = refl
  all-filter test keep passes (x ∷ xs) = elim (keep x) as (λ b. keep x ≡ b → list_all test (cond b (x ∷ filter keep xs) (filter keep xs)) ≡ true) [
    | true ↦ λ is. and_true _ _ (passes x is) (all-filter test keep passes xs)
    | false ↦ λ is. all-filter test keep passes xs
  ] refl

  all-joined : (test : X → Bool) (xs ys : List X) → list_all test xs ≡ true → list_all test ys ≡ true → list_all test (xs ++ ys) ≡ true
  all-joined test xs ys p q = list_all-append test xs ys ∙ and_true _ _ p q

-- diffs whose ids all pass a test
module _ (test : List ℕ → Bool) where
  abbrev passes : RecordOps → Type 0
  passes diff = list_all (λ c. test c.0) diff ≡ true

  fold_passes : (op : List ℕ → RecordOpTree) (ids : List (List ℕ)) (diff : RecordOps) → list_all test ids ≡ true → passes diff → passes (fold (λ diff id. with_key diff id (op id)) diff ids)
  fold_passes op [] diff all h = h
  fold_passes op (id ∷ ids) diff all h =
      fold_passes op ids (with_key diff id (op id)) (and_right _ _ all) (all-with_key (λ c. test c.0) diff id (op id) h (and_left _ _ all))

  puts_pass : (f : Data → Data) (m : Pairs) (diff : RecordOps) → list_all (λ p. test p.0) m ≡ true → passes diff → passes (fold (λ d p. with_key d p.0 (put (f p.1))) diff m)
  puts_pass f [] diff all h = h
  puts_pass f (p ∷ m) diff all h =
      puts_pass f m (with_key diff p.0 (put (f p.1))) (and_right _ _ all) (all-with_key (λ c. test c.0) diff p.0 (put (f p.1)) h (and_left _ _ all))

module _ (schemas : Schemas) (lawful : AreLawful schemas) where
  -- an id of the document is no presence's
  documents_others : (session : ℕ) (id : List ℕ) → schemas.is_document id ≡ true → not (is_own session id) ≡ true
  documents_others session id is = elim (is_own session id) as (λ b. is_own session id ≡ b → not b ≡ true) [
    | true ↦ λ own. absurd (differ (sym is ∙ ap schemas.is_document ((bytes_eq-Decides id (presence_id session)).0 own) ∙ presence_apart schemas lawful session))
    | false ↦ λ own. refl
  ] refl

  module _ (member : Member) where
    abbrev other : List ℕ → Bool
    other id = not (is_own member.session id)

    told_others : (m : Pairs) (diff : RecordOps) → names_others member.session (told_diff schemas member m diff) ≡ true
    told_others m [] = refl
    told_others m (c ∷ diff) =
        let as_told : List ℕ × RecordOpTree → List ℕ × RecordOpTree = λ c. (c.0, told_op schemas member.plan m c.0 c.1) in
        elim (is_own member.session c.0) as (λ b. is_own member.session c.0 ≡ b → names_others member.session (map as_told (cond (not b) (c ∷ except_own member.session diff) (except_own member.session diff))) ≡ true) [
          | true ↦ λ is. told_others m diff
          | false ↦ λ is. and_true _ _ (ap not is) (told_others m diff)
        ] refl

    action_others : (m : Pairs) (action : Action) → names_others member.session (action_diff (told_action schemas member m action)) ≡ true
    action_others m Commit = refl
    action_others m Discard = refl
    action_others m (Rebase diff) = told_others m diff

    -- an event names others alone
    abbrev is_other : DataEvent → Bool
    is_other event = names_others member.session (event_diff event)

    event_others : (m : Pairs) (clock : ℕ) (diff : RecordOps) (author : Option Author) → is_other (event_by schemas member m clock diff author) ≡ true
    event_others m clock diff None = told_others m diff
    event_others m clock diff (Some author) =
        elim (author.session == member.session) as (λ b. is_other (cond b (result_event schemas member m clock author) (patch_event schemas member m clock diff)) ≡ true) [
          | true ↦ action_others m author.action
          | false ↦ told_others m diff
        ]

    events_others : (sent : ℕ) (history : History) → list_all is_other (events_after schemas member sent history) ≡ true
    events_others sent [] = refl
    events_others sent (entry ∷ history) =
        let event = event_of schemas member entry history in
        let before = events_after schemas member sent history in
        elim (nat_lt (length history) sent) as (λ b. list_all is_other (cond b [] (before ++ event ∷ [])) ≡ true) [
          | true ↦ refl
          | false ↦ all-joined is_other before (event ∷ []) (events_others sent history)
              (and_true _ _ (event_others (records_of (entry ∷ history)) (suc (length history)) entry.diff entry.author) refl)
        ]

    bare_other : (clock : ℕ) (author : Option Author) → list_all is_other (bare_result schemas member clock author) ≡ true
    bare_other clock None = refl
    bare_other clock (Some author) = elim (author.session == member.session) as (λ b. list_all is_other (cond b (PushResult author.client_clock (pos clock) (Rebase []) ∷ []) []) ≡ true) [ true ↦ refl | false ↦ refl ]

    bare_others : (clock : ℕ) (history : History) → list_all is_other (bare_results schemas member clock history) ≡ true
    bare_others clock [] = refl
    bare_others clock (entry ∷ history) = all-joined is_other (bare_results schemas member clock history) (bare_result schemas member clock entry.author) (bare_others clock history) (bare_other clock entry.author)

    changes_others : (test : List ℕ → Bool) (clock : ℕ) (history : History) → ((id : List ℕ) → test id ≡ true → other id ≡ true) → names_others member.session (changes_after schemas member.plan test clock history) ≡ true
    changes_others test clock history more =
        fold_passes other (state_op schemas member.plan (records_of history)) (filter test (map (λ p. p.0) (changed_after clock history))) []
        (all-filter other test more (map (λ p. p.0) (changed_after clock history))) refl

    updates_others : (sent : ℕ) (history : History) → tells_others member.session (updates schemas member sent history) ≡ true
    updates_others sent history =
        let clock = length history in
        elim (nat_le (clock - sent) MOST_TOLD) as (λ b. list_all is_other (cond b (events_after schemas member sent history) (catch_up schemas member sent history)) ≡ true) [
          | true ↦ events_others sent history
          | false ↦ all-joined is_other (bare_results schemas member clock (above sent history)) _ (bare_others clock (above sent history))
              (and_true _ _ (changes_others (λ id. not (is_own member.session id)) sent history (λ id is. is)) refl)
        ]

    document_others : (known : Option ℕ) (history : History) → names_others member.session (document_diff schemas member.plan known history) ≡ true
    document_others None history =
        puts_pass other (schemas.lower member.plan) (doc schemas (records_of history)) []
        (all-filter (λ p. other p.0) (λ p. schemas.is_document p.0) (λ p is. documents_others member.session p.0 is) (records_of history)) refl
    document_others (Some reached) history = changes_others schemas.is_document reached history (documents_others member.session)

    snapshot_others : (request : List ℕ) (reached : ℤ) (first : ℕ) (history : History) → tells_others member.session (snapshot schemas member request reached first history) ≡ true
    snapshot_others request reached first history =
        let known = known_clock reached (start_of first history) (length history) in
        puts_pass other (schemas.lower member.plan) (others_of schemas member.session (records_of history)) (document_diff schemas member.plan known history)
        (all-filter (λ p. other p.0) (λ p. not (is_own member.session p.0)) (λ p is. is) (pres schemas (records_of history)))
        (document_others known history)

  module _ (room : Room) (n : ℕ) (s : Session) where
    abbrev IsOthers : Option Given → Type 0
    IsOthers None = Unit {0}
    IsOthers (Some given) = gives_others n given.out ≡ true

    if_others : (b : Bool) (given : Given) (o : Option Given) → IsOthers (Some given) → IsOthers o → IsOthers (cond b (Some given) o)
    if_others true given o h k = h
    if_others false given o h k = k

    pong_others : (o : Option Given) → IsOthers o → IsOthers (pong_or s o)
    pong_others o h = if_others (nat_lt 0 s.pings) (record { out = Message reply.Pong; notice = pong; after = record s { pings = s.pings - 1 } }) o refl h

    next_others : (phase : Phase) → IsOthers (next_in schemas room n s phase)
    next_others new = pong_others None tt
    next_others (asked request reached plan) = snapshot_others (member_of n s plan) request reached room.first room.history
    next_others (live sent plan) =
        let clock = length room.history in
        let given : Given = record {
          out = Message (updates schemas (member_of n s plan) sent room.history);
          notice = updates_between sent clock;
          after = record s { phase = live clock plan };
        } in
        pong_others (cond (nat_lt sent clock) (Some given) None) (if_others (nat_lt sent clock) given None (updates_others (member_of n s plan) sent room.history) tt)
    next_others (ended reason true) = tt
    next_others (ended reason false) = refl
    next_others gone = tt

  pub given_others : (room : Room) (n : ℕ) (given : Given) → next_for schemas room n ≡ Some given → gives_others n given.out ≡ true
  given_others room n given is =
      let h = chained (λ s. next_in schemas room n s s.phase) (session_at n room) given is in
      subst (IsOthers room n h.0) h.2 (next_others room n h.0 h.0.phase)
