-- Updates bring a base to what the room has, by entries and by a catch-up.
use Rattle.std.proofs.Common.{◌≡◌, ℕ, zero, suc, ◌+◌, ◌-◌, nat_lt, nat_le, ◌==◌, pos, Bool, true, false, ◌&&◌, ◌||◌, cond, not, List, [], ◌∷◌, ◌++◌, length, drop, Option, Some, None, option_map, is_some, refl, sym, ap, subst, ◌∙◌, arith}
use Rattle.std.specs.Prelude.{count_by}
use Rattle.std.specs.List.{list_all}
use Rattle.std.specs.Option.{option_map_or}
use Rattle.std.proofs.lemmas.Bool.Decides.{nat_tests, Decides-eqb}
use Rattle.std.proofs.lemmas.List.Sums.{fold-append, sum_by-cons}
use Rattle.std.proofs.lemmas.Slice.Eq.{bytes_eq-Decides}
use Rattle.rooms_val.specs.Data.{Data, Pairs}
use Rattle.rooms_val.specs.Maps.{AreRising, value_at}
use Rattle.rooms_val.proofs.MapsLemmas.{same_pairs}
use Rattle.field_ops.specs.RecordOps.{RecordOpTree, put, patch, remove, RecordOps}
use Rattle.field_ops.specs.Patched.{raw}
use Rattle.field_ops.specs.Laws.{raw_after}
use Rattle.doc_model.specs.Documents.{fold_raw, step}
use Rattle.doc_model.specs.Inverses.{record_after}
use Rattle.doc_model.proofs.InverseLemmas.{at-step, rising-step}
use Rattle.doc_model.proofs.MergeLemmas.{at-fold_raw, rising-fold_raw}
use Rattle.migrate_seq.proofs.PlanLemmas.{drop-slice_get}
use Rattle.room_model.specs.Schemas.{Schemas, AreLawful, Plan, Member, presence_id, is_own}
use Rattle.room_model.specs.Histories.{History, records_of, oldest, above, last_clock, is_author, is_by}
use Rattle.room_model.specs.Messages.{except_own, told_op, told_diff, told_action, result_event, patch_event, event_by, event_of, events_after, bare_result, bare_results, state_op, changes_after, catch_up, updates}
use Rattle.room_model.specs.Acting.{IsActionOf, IsCommitOf, document_ops, is_sure, IsActing, AllActing, AllCommit}
use Rattle.room_model.specs.Bases.{is_told, whole_for, replica_at, BringUp, is_scoped, IsAnswered, AreAnswered}
use Rattle.room_model.specs.Replicas.{Pending}
use Rattle.room_model.specs.Taking.{Replica, first_diff, result_diff, after_event, after_events}
use Rattle.room_model.specs.declared.history.Author.{Author}
use Rattle.room_model.specs.declared.history.Entry.{Entry}
use Rattle.room_model.specs.declared.limits.TheConstants.{MOST_TOLD}
use Rattle.room_model.proofs.ActingLemmas.{differ, presence_apart}
use Rattle.rooms_val.proofs.Truths.{and_left, and_right, and_true}
use Rattle.room_model.proofs.BaseLemmas.{rising-records, at-seen_with, rising-seen_with, at-changes, rising-changes, state_after}
use Rattle.room_model.proofs.LookUpLemmas.{at-filter, rising-filter, at-mapped, rising-mapped, all_at, none_at, none_below, kept_at}
use Rattle.sync_msgs.specs.declared.data_event.Action.{Action}
use Rattle.sync_msgs.specs.declared.data_event.Action.TheVariants.{Commit, Discard, Rebase}
use Rattle.sync_msgs.specs.declared.data_event.DataEvent.{DataEvent}
use Rattle.sync_msgs.specs.declared.data_event.DataEvent.TheVariants.{Patch, PushResult}
use Rattle.sync_msgs.specs.declared.server_message.ServerMessage.TheVariants.{Data as Updates}

-- one more of a list goes
drop_more : {X : Type 0} (n : ℕ) (xs : List X) → drop 1 (drop n xs) ≡ drop (suc n) xs
drop_more zero xs = refl
drop_more (suc n) [] = refl
drop_more (suc n) (x ∷ xs) = drop_more n xs

drop_if : {X : Type 0} (b : Bool) (n : ℕ) (xs : List X) → drop (cond b 1 0) (drop n xs) ≡ drop (cond b 1 0 + n) xs
drop_if true n xs = drop_more n xs ∙ (let same : suc n ≡ 1 + n = omega arith in ap (λ k. drop k xs) same)
drop_if false n xs = let same : n ≡ 0 + n = omega arith in ap (λ k. drop k xs) same

-- one more of a list goes for each that passes
drop_counted : {X Y : Type 0} (p : Y → Bool) (y : Y) (ys : List Y) (xs : List X) → drop (cond (p y) 1 0) (drop (count_by p ys) xs) ≡ drop (count_by p (y ∷ ys)) xs
drop_counted p y ys xs = drop_if (p y) (count_by p ys) xs ∙ ap (λ k. drop k xs) (sym (sum_by-cons (λ y. cond (p y) 1 0) y ys))

-- what is told of an id: whether it is the document's, a presence's, and the session's own
module _ {X Y : Type 0} (f : X → Y) (o : Option X) where
  told_patch : (d p own : Bool) → (own ≡ true → d ≡ false) → (d || p ≡ false → o ≡ None) → option_map f (cond (not own) o None) ≡ cond (d || p && not own) (option_map f o) None
  told_patch true p true apart scoped = absurd (differ (apart refl))
  told_patch true p false apart scoped = refl
  told_patch false true true apart scoped = refl
  told_patch false true false apart scoped = refl
  told_patch false false true apart scoped = refl
  told_patch false false false apart scoped = ap (option_map f) (scoped refl)

  told_none : (d p own : Bool) → cond d o None ≡ None → (d || own ≡ false → o ≡ None) → None ≡ cond (d || p && not own) (option_map f o) None
  told_none true p own none named = sym (ap (option_map f) none)
  told_none false true true none named = refl
  told_none false true false none named = sym (ap (option_map f) (named refl))
  told_none false false own none named = refl

  told_rebase : (d p own : Bool) → (own ≡ true → d ≡ false) → (d || own ≡ false → o ≡ None) → option_map f (cond (not own) (cond d o None) None) ≡ cond (d || p && not own) (option_map f o) None
  told_rebase true p true apart named = absurd (differ (apart refl))
  told_rebase true p false apart named = refl
  told_rebase false true true apart named = refl
  told_rebase false true false apart named = sym (ap (option_map f) (named refl))
  told_rebase false false true apart named = refl
  told_rebase false false false apart named = refl

told_commit : {X : Type 0} (f : X → X) (o : Option X) (d p own : Bool) → option_map f o ≡ o → (d || own ≡ false → o ≡ None) → cond d o None ≡ cond (d || p && not own) (option_map f o) None
told_commit f o true p own same named = sym same
told_commit f o false true true same named = refl
told_commit f o false true false same named = sym (ap (option_map f) (named refl))
told_commit f o false false own same named = refl

as_it_is : {X : Type 0} (o : Option X) → option_map (λ x. x) o ≡ o
as_it_is None = refl
as_it_is (Some x) = refl

-- a client admits what the room does if its plan is empty
abbrev AdmitsSame : Schemas → Plan → (List ℕ → Data → Bool) → Type 0
AdmitsSame schemas plan admits = plan ≡ [] → (id : List ℕ) (d : Data) → admits id d ≡ schemas.admits id d

module _ (schemas : Schemas) (lawful : AreLawful schemas) (session : ℕ) where
  -- the session's own presence isn't the document's
  own_apart : (q : List ℕ) → is_own session q ≡ true → schemas.is_document q ≡ false
  own_apart q own = ap schemas.is_document ((bytes_eq-Decides q (presence_id session)).0 own) ∙ presence_apart schemas lawful session

  lowered : (o : Option Data) → option_map (schemas.lower []) o ≡ o
  lowered None = refl
  lowered (Some d) = ap Some (lawful.lowers_nothing d)

  module _ (admits : List ℕ → Data → Bool) where
    -- what is sure in the room is so at a client that admits the same
    sure_after : ((id : List ℕ) (d : Data) → admits id d ≡ schemas.admits id d) → (q : List ℕ) (c : RecordOpTree) (r : Option Data) → is_sure schemas q c r ≡ true → record_after admits q (Some c) r ≡ raw c r
    sure_after same q (put d) r sure = refl
    sure_after same q remove None sure = refl
    sure_after same q remove (Some d) sure = refl
    sure_after same q (patch p) r sure = elim (raw (patch p) r) as (λ x. option_map_or (schemas.admits q) x false ≡ true → cond (option_map_or (admits q) x false) x r ≡ x) [
      | None ↦ λ is. absurd (differ (sym is))
      | Some d ↦ λ is. ap (λ b. cond b (Some d) r) (same q d ∙ is)
    ] sure

    -- an entry's operation as it is told does to a record, taken down, what it did in the room
    op_after : (plan : Plan) → AdmitsSame schemas plan admits → (after : Pairs) (q : List ℕ) (o : Option RecordOpTree) (r : Option Data)
        → value_at after q ≡ raw_after o r → ((c : RecordOpTree) → o ≡ Some c → is_sure schemas q c r ≡ true)
        → record_after admits q (option_map (told_op schemas plan after q) o) (option_map (schemas.lower plan) r) ≡ option_map (schemas.lower plan) (value_at after q)
    op_after plan same after q None r is sure = ap (option_map (schemas.lower plan)) (sym is)
    op_after [] same after q (Some c) r is sure =
        ap (record_after admits q (Some c)) (lowered r) ∙ sure_after (same refl) q c r (sure c refl) ∙ sym is ∙ sym (lowered (value_at after q))
    op_after (place ∷ plan) same after q (Some c) r is sure = state_after schemas (place ∷ plan) admits after q _

    -- operations that say of the ids that the session is to have what an entry does lead from the base before it to the one after it
    told_step : (plan : Plan) → AdmitsSame schemas plan admits → (m : Pairs) → AreRising m → (diff : RecordOps) → AreRising diff
        → list_all (λ c. is_sure schemas c.0 c.1 (value_at m c.0)) diff ≡ true → (ops : RecordOps) → AreRising ops
        → ((q : List ℕ) → value_at ops q ≡ cond (is_told schemas session q) (option_map (told_op schemas plan (fold_raw m diff) q) (value_at diff q)) None)
        → step admits (whole_for schemas plan session m) ops ≡ whole_for schemas plan session (fold_raw m diff)
    told_step plan same m rising diff rising_diff sure ops rising_ops at =
        let after = fold_raw m diff in
        let told = is_told schemas session in
        let before = whole_for schemas plan session m in
        same_pairs _ _ (rising-step admits ops before (rising-seen_with schemas plan told m rising)) (rising-seen_with schemas plan told after (rising-fold_raw diff m rising)) (λ q.
        at-step admits ops before q rising_ops
        ∙ (λ i. record_after admits q (at q i) (at-seen_with schemas plan told m q i))
        ∙ elim (told q) as (λ b. record_after admits q (cond b (option_map (told_op schemas plan after q) (value_at diff q)) None) (option_map (schemas.lower plan) (cond b (value_at m q) None)) ≡ option_map (schemas.lower plan) (cond b (value_at after q) None)) [
          | true ↦ op_after plan same after q (value_at diff q) (value_at m q) (at-fold_raw diff m q rising_diff) (λ c named. all_at (λ id c. is_sure schemas id c (value_at m id)) diff q c sure named)
          | false ↦ refl
        ]
        ∙ sym (at-seen_with schemas plan told after q))

  -- a commit's part of the document, as it is told
  commit_at : (plan : Plan) (after : Pairs) (diff : RecordOps) → IsCommitOf plan (document_ops schemas diff) Commit → (q : List ℕ) → (schemas.is_document q || is_own session q ≡ false → value_at diff q ≡ None)
      → value_at (document_ops schemas diff) q ≡ cond (is_told schemas session q) (option_map (told_op schemas plan after q) (value_at diff q)) None
  commit_at [] after diff says q named =
      at-filter schemas.is_document diff q
      ∙ told_commit (told_op schemas [] after q) (value_at diff q) (schemas.is_document q) (schemas.is_presence q) (is_own session q) (as_it_is (value_at diff q)) named
  commit_at (place ∷ plan) after diff none q named =
      ap (λ ops. value_at ops q) none
      ∙ told_none (told_op schemas (place ∷ plan) after q) (value_at diff q) (schemas.is_document q) (schemas.is_presence q) (is_own session q)
      (sym (at-filter schemas.is_document diff q) ∙ ap (λ ops. value_at ops q) none) named

module _ (schemas : Schemas) (lawful : AreLawful schemas) (member : Member) where
  abbrev is_mine : Entry → Bool
  is_mine entry = is_by member.session entry

  at-told_diff : (after : Pairs) (diff : RecordOps) (q : List ℕ) → value_at (told_diff schemas member after diff) q ≡ option_map (told_op schemas member.plan after q) (cond (not (is_own member.session q)) (value_at diff q) None)
  at-told_diff after diff q =
      at-mapped (λ id c. told_op schemas member.plan after id c) (except_own member.session diff) q
      ∙ ap (option_map (told_op schemas member.plan after q)) (at-filter (λ id. not (is_own member.session id)) diff q)

  rising-told_diff : (after : Pairs) (diff : RecordOps) → AreRising diff → AreRising (told_diff schemas member after diff)
  rising-told_diff after diff rising =
      rising-mapped (λ id c. told_op schemas member.plan after id c) (except_own member.session diff) (rising-filter (λ id. not (is_own member.session id)) diff rising)

  -- what operations say, of the ids that the session is to have, of an entry
  abbrev Says : Pairs → RecordOps → RecordOps → Type 0
  Says after diff ops =
      AreRising ops × ((q : List ℕ) → value_at ops q ≡ cond (is_told schemas member.session q) (option_map (told_op schemas member.plan after q) (value_at diff q)) None)

  -- what the result of a push does to the base
  result_says : (after : Pairs) (diff pushed : RecordOps) → AreRising diff → list_all (λ c. schemas.is_document c.0 || is_own member.session c.0) diff ≡ true
      → (action : Action) → IsActionOf (document_ops schemas diff) action → IsCommitOf member.plan (document_ops schemas diff) action → (action ≡ Commit → document_ops schemas diff ≡ pushed)
      → Says after diff (result_diff pushed (told_action schemas member after action))
  result_says after diff pushed rising own Commit says commits answers = (
    subst AreRising (answers refl) (rising-filter schemas.is_document diff rising),
    λ q. ap (λ ops. value_at ops q) (sym (answers refl))
        ∙ commit_at schemas lawful member.session member.plan after diff commits q (none_at (λ id. schemas.is_document id || is_own member.session id) diff q own),
  )
  result_says after diff pushed rising own Discard none commits answers = (
    tt,
    λ q. told_none (told_op schemas member.plan after q) (value_at diff q) (schemas.is_document q) (schemas.is_presence q) (is_own member.session q)
        (sym (at-filter schemas.is_document diff q) ∙ ap (λ ops. value_at ops q) none) (none_at (λ id. schemas.is_document id || is_own member.session id) diff q own),
  )
  result_says after diff pushed rising own (Rebase part) says commits answers = (
    rising-told_diff after part (subst AreRising (sym says) (rising-filter schemas.is_document diff rising)),
    λ q. at-told_diff after part q
        ∙ ap (λ o. option_map (told_op schemas member.plan after q) (cond (not (is_own member.session q)) o None)) (ap (λ ops. value_at ops q) says ∙ at-filter schemas.is_document diff q)
        ∙ told_rebase (told_op schemas member.plan after q) (value_at diff q) (schemas.is_document q) (schemas.is_presence q) (is_own member.session q)
        (own_apart schemas lawful member.session q) (none_at (λ id. schemas.is_document id || is_own member.session id) diff q own),
  )

  module _ (admits : List ℕ → Data → Bool) where
    -- an entry as it is told leads from the replica before it to the one after it
    entry_step : AdmitsSame schemas member.plan admits → (entry : Entry) (history : History) (items : List Pending) → IsActing schemas (records_of history) entry
        → ((author : Author) → entry.author ≡ Some author → author.session ≡ member.session → IsCommitOf member.plan (document_ops schemas entry.diff) author.action)
        → ((author : Author) → entry.author ≡ Some author → author.session ≡ member.session → author.action ≡ Commit → document_ops schemas entry.diff ≡ first_diff items)
        → after_event admits (replica_at schemas member history items) (event_of schemas member entry history) ≡ replica_at schemas member (entry ∷ history) (drop (cond (is_mine entry) 1 0) items)
    entry_step same entry history items acts commits answers =
        let m = records_of history in
        let after = fold_raw m entry.diff in
        let clock = suc (length history) in
        let steps : (ops : RecordOps) → Says after entry.diff ops → step admits (whole_for schemas member.plan member.session m) ops ≡ whole_for schemas member.plan member.session after =
        λ ops says. told_step schemas lawful member.session admits member.plan same m (rising-records history) entry.diff acts.rising acts.acting ops says.0 says.1 in
        let patched : after_event admits (replica_at schemas member history items) (patch_event schemas member after clock entry.diff) ≡ replica_at schemas member (entry ∷ history) items =
        (let changed = steps (told_diff schemas member after entry.diff) (
          rising-told_diff after entry.diff acts.rising,
          λ q. at-told_diff after entry.diff q
              ∙ told_patch (told_op schemas member.plan after q) (value_at entry.diff q) (schemas.is_document q) (schemas.is_presence q) (is_own member.session q)
              (own_apart schemas lawful member.session q) (none_at (λ id. schemas.is_document id || schemas.is_presence id) entry.diff q acts.scoped),
        ) in
        λ i. record { base = changed i; pending = items }) in
        elim entry.author as (λ o. entry.author ≡ o → after_event admits (replica_at schemas member history items) (event_by schemas member after clock entry.diff o) ≡ replica_at schemas member (entry ∷ history) (drop (cond (is_author member.session o) 1 0) items)) [
          | None ↦ λ is. patched
          | Some author ↦ λ is. elim (author.session == member.session) as (λ b. (author.session == member.session) ≡ b
              → after_event admits (replica_at schemas member history items) (cond b (result_event schemas member after clock author) (patch_event schemas member after clock entry.diff)) ≡ replica_at schemas member (entry ∷ history) (drop (cond b 1 0) items)) [
                | true ↦ λ mine.
                    let by : author.session ≡ member.session = (Decides-eqb author.session member.session).0 mine in
                    let own = subst (λ n. list_all (λ c. schemas.is_document c.0 || is_own n c.0) entry.diff ≡ true) by (acts.own author is) in
                    let changed = steps (result_diff (first_diff items) (told_action schemas member after author.action))
                    (result_says after entry.diff (first_diff items) acts.rising own author.action (acts.action author is) (commits author is by) (answers author is by)) in
                    λ i. record { base = changed i; pending = drop 1 items }
                | false ↦ λ other. patched
              ] refl
        ] refl

    -- an entry that answers the item at a place of those pending answers the first of those from there on
    answered_first : (items : List Pending) (place : ℕ) (diff : RecordOps) (author : Author) → IsAnswered schemas items place diff author → author.action ≡ Commit → document_ops schemas diff ≡ first_diff (drop place items)
    answered_first items place diff author h commit = h.commit commit ∙ ap first_diff (sym (drop-slice_get items place h.item (sym h.there)))

    pub by_entries : AdmitsSame schemas member.plan admits → (sent : ℕ) (history : History) (items : List Pending) → AllActing schemas history
        → AllCommit schemas member.session member.plan history → AreAnswered schemas member.session items (above sent history)
        → BringUp schemas admits member sent history items (events_after schemas member sent history)
    by_entries same sent [] items acts commits answers = refl
    by_entries same sent (entry ∷ history) items acts commits answers =
        let event = event_of schemas member entry history in
        let before = events_after schemas member sent history in
        let n = count_by is_mine (above sent history) in
        elim (nat_lt (length history) sent) as (λ b. AreAnswered schemas member.session items (cond b [] (entry ∷ above sent history))
        → after_events admits (replica_at schemas member (cond b (entry ∷ history) (oldest sent history)) items) (cond b [] (before ++ event ∷ []))
        ≡ replica_at schemas member (entry ∷ history) (drop (count_by is_mine (cond b [] (entry ∷ above sent history))) items)) [
          | true ↦ λ those. refl
          | false ↦ λ those.
              fold-append (after_event admits) (replica_at schemas member (oldest sent history) items) before (event ∷ [])
              ∙ ap (λ replica. after_event admits replica event) (by_entries same sent history items acts.1 commits.1 those.1)
              ∙ entry_step same entry history (drop n items) acts.0 commits.0 (λ author is by. answered_first items n entry.diff author (those.0 author is by))
              ∙ ap (replica_at schemas member (entry ∷ history)) (drop_counted is_mine entry (above sent history) items)
        ] answers

    -- the results in a catch-up end the items that are answered, and leave the base
    bare_end : (clock : ℕ) (base : Pairs) (items : List Pending) (entries : History) → after_events admits (record { base = base; pending = items }) (bare_results schemas member clock entries) ≡ record { base = base; pending = drop (count_by is_mine entries) items }
    bare_end clock base items [] = refl
    bare_end clock base items (entry ∷ entries) =
        let n = count_by is_mine entries in
        let so_far : Replica = record { base = base; pending = drop n items } in
        let one : after_events admits so_far (bare_result schemas member clock entry.author) ≡ record { base = base; pending = drop (cond (is_mine entry) 1 0) (drop n items) } =
        elim entry.author as (λ o. after_events admits so_far (bare_result schemas member clock o) ≡ record { base = base; pending = drop (cond (is_author member.session o) 1 0) (drop n items) }) [
          | None ↦ refl
          | Some author ↦ elim (author.session == member.session) as (λ b. after_events admits so_far (cond b (PushResult author.client_clock (pos clock) (Rebase []) ∷ []) []) ≡ record { base = base; pending = drop (cond b 1 0) (drop n items) }) [ true ↦ refl | false ↦ refl ]
        ] in
        fold-append (after_event admits) (record { base = base; pending = items }) (bare_results schemas member clock entries) (bare_result schemas member clock entry.author)
        ∙ ap (λ replica. after_events admits replica (bare_result schemas member clock entry.author)) (bare_end clock base items entries)
        ∙ one ∙ (λ i. record { base = base; pending = drop_counted is_mine entry entries items i })

    -- no entry names an id that is neither the document's nor a presence's
    last_unscoped : (history : History) (q : List ℕ) → list_all (λ entry. is_scoped schemas entry) history ≡ true → schemas.is_document q || schemas.is_presence q ≡ false → last_clock history q ≡ 0
    last_unscoped [] q scoped out = refl
    last_unscoped (entry ∷ history) q scoped out =
        ap (λ o. cond (is_some o) (suc (length history)) (last_clock history q)) (none_at (λ id. schemas.is_document id || schemas.is_presence id) entry.diff q (and_left _ _ scoped) out)
        ∙ last_unscoped history q (and_right _ _ scoped) out

    -- what a catch-up makes of an id: whether it is the document's, a presence's and the session's own, and has changed since
    caught_at : (d p own later : Bool) (f : Data → Data) (q : List ℕ) (c : RecordOpTree) (old v : Option Data) → ((r : Option Data) → record_after admits q (Some c) r ≡ option_map f v)
        → (own ≡ true → d ≡ false) → (d || p ≡ false → later ≡ false) → (later ≡ false → old ≡ v)
        → record_after admits q (cond (not own && later) (Some c) None) (option_map f (cond (d || p && not own) old None)) ≡ option_map f (cond (d || p && not own) v None)
    caught_at true p true later f q c old v puts apart scoped kept = absurd (differ (apart refl))
    caught_at true p false true f q c old v puts apart scoped kept = puts _
    caught_at true p false false f q c old v puts apart scoped kept = ap (option_map f) (kept refl)
    caught_at false true true later f q c old v puts apart scoped kept = refl
    caught_at false true false true f q c old v puts apart scoped kept = puts _
    caught_at false true false false f q c old v puts apart scoped kept = ap (option_map f) (kept refl)
    caught_at false false own true f q c old v puts apart scoped kept = absurd (differ (scoped refl))
    caught_at false false true false f q c old v puts apart scoped kept = refl
    caught_at false false false false f q c old v puts apart scoped kept = refl

    pub caught_up : (sent : ℕ) (history : History) (items : List Pending) → list_all (λ entry. is_scoped schemas entry) history ≡ true → BringUp schemas admits member sent history items (catch_up schemas member sent history)
    caught_up sent history items scoped =
        let plan = member.plan in
        let clock = length history in
        let told = is_told schemas member.session in
        let m = records_of history in
        let old = records_of (oldest sent history) in
        let others : List ℕ → Bool = λ id. not (is_own member.session id) in
        let diff = changes_after schemas plan others sent history in
        let before = whole_for schemas plan member.session old in
        let rest = drop (count_by is_mine (above sent history)) items in
        let changed : step admits before diff ≡ whole_for schemas plan member.session m =
        same_pairs _ _ (rising-step admits diff before (rising-seen_with schemas plan told old (rising-records (oldest sent history)))) (rising-seen_with schemas plan told m (rising-records history)) (λ q.
        at-step admits diff before q (rising-changes schemas plan others sent history)
        ∙ (λ i. record_after admits q (at-changes schemas plan others sent history q i) (at-seen_with schemas plan told old q i))
        ∙ caught_at (schemas.is_document q) (schemas.is_presence q) (is_own member.session q) (nat_lt sent (last_clock history q)) (schemas.lower plan) q (state_op schemas plan m q) (value_at old q) (value_at m q)
        (state_after schemas plan admits m q) (own_apart schemas lawful member.session q)
        (λ out. ap (nat_lt sent) (last_unscoped history q scoped out) ∙ sym (none_below sent))
        (λ before. kept_at sent history q (grind (arith, nat_tests)))
        ∙ sym (at-seen_with schemas plan told m q)) in
        fold-append (after_event admits) (replica_at schemas member (oldest sent history) items) (bare_results schemas member clock (above sent history)) (Patch diff (pos clock) ∷ [])
        ∙ ap (λ replica. after_event admits replica (Patch diff (pos clock))) (bare_end clock before items (above sent history))
        ∙ (λ i. record { base = changed i; pending = rest })

    all_scoped : (history : History) → AllActing schemas history → list_all (λ entry. is_scoped schemas entry) history ≡ true
    all_scoped [] acts = refl
    all_scoped (entry ∷ history) acts = and_true _ _ acts.0.scoped (all_scoped history acts.1)

    pub updated : AdmitsSame schemas member.plan admits → (sent : ℕ) (history : History) (items : List Pending) (events : List DataEvent) → AllActing schemas history
        → AllCommit schemas member.session member.plan history → AreAnswered schemas member.session items (above sent history)
        → updates schemas member sent history ≡ Updates events → BringUp schemas admits member sent history items events
    updated same sent history items events acts commits answers is =
        elim (nat_le (length history - sent) MOST_TOLD) as (λ b. Updates (cond b (events_after schemas member sent history) (catch_up schemas member sent history)) ≡ Updates events → BringUp schemas admits member sent history items events) [
          | true ↦ λ is. let told : events_after schemas member sent history ≡ events = cc in subst (BringUp schemas admits member sent history items) told (by_entries same sent history items acts commits answers)
          | false ↦ λ is. let told : catch_up schemas member sent history ≡ events = cc in subst (BringUp schemas admits member sent history items) told (caught_up sent history items (all_scoped history acts))
        ] is
