-- What the commits of a live session say: at an older schema nothing was accepted.
use Rattle.std.proofs.Common.{◌≡◌, inl, inr, ℕ, zero, suc, true, false, ◌||◌, cond, List, [], ◌∷◌, ◌++◌, length, nat_abs, slice_get, slice_set, Option, Some, None, refl, sym, ap, subst, ◌∙◌}
use Rattle.std.specs.List.{list_all}
use Rattle.std.specs.Option.{option_and_then}
use Rattle.field_ops.specs.RecordOps.{RecordOpTree, RecordOps}
use Rattle.rooms_val.specs.Data.{Pairs}
use Rattle.rooms_val.specs.Maps.{added}
use Rattle.room_model.specs.Schemas.{Schemas, AreLawful, Plan, Member, presence_id}
use Rattle.room_model.specs.Histories.{History, records_of}
use Rattle.room_model.specs.Accepting.{Push, is_fit, is_taken, accept_ops, document_part, presence_part, entry_of, action_of}
use Rattle.room_model.specs.Acting.{document_ops, IsCommitOf, AllCommit}
use Rattle.sync_msgs.specs.declared.data_event.Action.TheVariants.{Commit}
use Rattle.room_model.specs.Reachable.{IsBeginning, anew, loaded, Reachable, is_over}
use Rattle.room_model.specs.Saves.{begun_to}
use Rattle.room_model.specs.declared.saved.SavedRoom.{SavedRoom}
use Rattle.room_model.specs.Rooms.{Phase, new, asked, live, ended, gone, Session, Room, removal, with_session}
use Rattle.room_model.specs.declared.history.Author.{Author}
use Rattle.room_model.specs.declared.history.Entry.{Entry}
use Rattle.room_model.proofs.AcceptLemmas.{is_commit}
use Rattle.room_model.proofs.ActingLemmas.{filter_all, filter-with_key, presence_apart, all-accepted, fit_documents}
use Rattle.rooms_val.proofs.Truths.{and_left}
use Rattle.room_model.proofs.CallLemmas.{Moves, stays, asks, answered, updated, closes, Goes, member_of, pushed_by, step_keeps, everywhere}
use Rattle.room_model.proofs.ClosingLemmas.{set_at_place, set_elsewhere, by_number}

-- no entry answers a push of a session
abbrev NoneBy : ℕ → History → Type 0
NoneBy number [] = Unit {0}
NoneBy number (entry ∷ history) = ((author : Author) → entry.author ≡ Some author → author.session ≡ number → ⊥) × NoneBy number history

begun_by_none : (number : ℕ) (saved : SavedRoom) (clock : ℕ) → NoneBy number (begun_to saved clock)
begun_by_none number saved zero = tt
begun_by_none number saved (suc clock) = (λ author by. absurd (cc), begun_by_none number saved clock)

action_commits : (plan : Plan) (diff part : RecordOps) → (diff ≡ [] → part ≡ []) → IsCommitOf plan part (action_of plan diff part)
action_commits [] diff part none = tt
action_commits (place ∷ plan) [] part none = none refl
action_commits (place ∷ plan) (c ∷ diff) [] none = tt
action_commits (place ∷ plan) (c ∷ diff) (d ∷ part) none = tt

module _ (schemas : Schemas) where
  none_commit : (number : ℕ) (plan : Plan) (history : History) → NoneBy number history → AllCommit schemas number plan history
  none_commit number plan [] h = tt
  none_commit number plan (entry ∷ history) h = (λ author by is. absurd (h.0 author by is), none_commit number plan history h.1)

  -- what a history has of a session, by its phase
  abbrev CommitsIn : ℕ → Phase → History → Type 0
  CommitsIn number new history = NoneBy number history
  CommitsIn number (asked request reached plan) history = NoneBy number history
  CommitsIn number (live sent plan) history = AllCommit schemas number plan history
  CommitsIn number (ended reason told) history = Unit {0}
  CommitsIn number gone history = Unit {0}

  -- the same of one that may not have entered
  abbrev CommitsAt : ℕ → Option Session → History → Type 0
  CommitsAt number None history = NoneBy number history
  CommitsAt number (Some s) history = CommitsIn number s.phase history

  -- an entry of somebody else keeps it
  further_in : (number : ℕ) (phase : Phase) (entry : Entry) (history : History) → ((author : Author) → entry.author ≡ Some author → author.session ≡ number → ⊥)
      → CommitsIn number phase history → CommitsIn number phase (entry ∷ history)
  further_in number new entry history other h = (other, h)
  further_in number (asked request reached plan) entry history other h = (other, h)
  further_in number (live sent plan) entry history other h = (λ author by is. absurd (other author by is), h)
  further_in number (ended reason told) entry history other h = tt
  further_in number gone entry history other h = tt

  further : (number : ℕ) (o : Option Session) (entry : Entry) (history : History) → ((author : Author) → entry.author ≡ Some author → author.session ≡ number → ⊥)
      → CommitsAt number o history → CommitsAt number o (entry ∷ history)
  further number None entry history other h = (other, h)
  further number (Some s) entry history other h = further_in number s.phase entry history other h

  over_commits : (number : ℕ) (phase : Phase) (history : History) → is_over phase ≡ true → CommitsIn number phase history
  over_commits number new history over = absurd (cc)
  over_commits number (asked request reached plan) history over = absurd (cc)
  over_commits number (live sent plan) history over = absurd (cc)
  over_commits number (ended reason told) history over = tt
  over_commits number gone history over = tt

  goes_commits : (number clock : ℕ) (history : History) (p q : Phase) → Moves clock p q → CommitsIn number p history → CommitsIn number q history
  goes_commits number clock history p _ (stays _) h = h
  goes_commits number clock history _ _ (asks request reached plan) h = h
  goes_commits number clock history _ _ (answered request reached plan) h = none_commit number plan history h
  goes_commits number clock history _ _ (updated sent plan) h = h
  goes_commits number clock history _ q (closes _ _ over) h = over_commits number q history over

  abbrev Committed : Room → Type 0
  Committed room = (number : ℕ) → CommitsAt number (slice_get room.sessions number) room.history

  set_commits : (room : Room) (n : ℕ) (s t : Session) → slice_get room.sessions n ≡ Some s → Goes (length room.history) s t → Committed room → Committed (with_session n t room)
  set_commits room n s t at on h = λ k. by_number (λ b. CommitsAt k (slice_get (slice_set room.sessions n t) k) room.history) k n
      (λ same.
      let before : CommitsIn k s.phase room.history = subst (λ o. CommitsAt k o room.history) (ap (slice_get room.sessions) same ∙ at) (h k) in
      subst (λ o. CommitsAt k o room.history) (sym (ap (slice_get (slice_set room.sessions n t)) same ∙ set_at_place room.sessions n s t at))
      (goes_commits k (length room.history) room.history s.phase t.phase on.moves before))
      (λ apart. subst (λ o. CommitsAt k o room.history) (sym (set_elsewhere room.sessions n k t apart)) (h k))

  removal_commits : (room : Room) (n : ℕ) → Committed room → Committed (record room { history = removal n ∷ room.history })
  removal_commits room n h = λ k. further k (slice_get room.sessions k) (removal n) room.history (λ author by is. absurd (cc)) (h k)

  added_commits : (number : ℕ) (history : History) (s : Session) → s.phase ≡ new → (xs : List Session) (k : ℕ) → CommitsAt number (slice_get xs k) history
      → CommitsAt number (slice_get (xs ++ s ∷ []) k) history
  added_commits number history s is [] zero h = subst (λ p. CommitsIn number p history) (sym is) h
  added_commits number history s is [] (suc k) h = h
  added_commits number history s is (x ∷ xs) zero h = h
  added_commits number history s is (x ∷ xs) (suc k) h = added_commits number history s is xs k h

  module _ (lawful : AreLawful schemas) where
    -- the document's part of what is accepted with a presence
    document_added : (n : ℕ) (part : RecordOps) (o : Option RecordOpTree) → list_all (λ c. schemas.is_document c.0) part ≡ true → document_ops schemas (added part (presence_id n) o) ≡ part
    document_added n part None all = filter_all schemas.is_document part all
    document_added n part (Some d) all = filter-with_key schemas.is_document part (presence_id n) d all (presence_apart schemas lawful n)

    -- the document's part of an entry that is a commit is the pushed diff
    pub commit_pushed : (member : Member) (m : Pairs) (push : Push) (author : Author) → is_taken schemas member push ≡ true → (entry_of schemas member m push).author ≡ Some author → author.action ≡ Commit
        → document_ops schemas (entry_of schemas member m push).diff ≡ push.diff
    commit_pushed member m push author taken by commit =
        let part = document_part schemas member m push.diff in
        let made : Author = record { session = member.session; client_clock = push.client_clock; action = action_of member.plan push.diff part } in
        let same : made ≡ author = cc in
        let documents : list_all (λ c. schemas.is_document c.0) part ≡ true =
        elim member.readonly as (λ b. (b || is_fit schemas member.plan push.diff) ≡ true → list_all (λ c. schemas.is_document c.0) (cond b [] (accept_ops schemas member.plan m push.diff)) ≡ true) [
          | true ↦ λ fit. refl
          | false ↦ λ fit. all-accepted schemas member.plan schemas.is_document m push.diff (fit_documents schemas member.plan push.diff fit)
        ] (and_left _ _ taken) in
        let nothing_of : document_part schemas member m [] ≡ [] = elim member.readonly as (λ b. cond {A = RecordOps} b [] [] ≡ []) [ true ↦ refl | false ↦ refl ] in
        document_added member.session part (option_and_then (presence_part schemas member m) push.presence) documents
        ∙ elim (is_commit schemas member m push.diff (ap (λ a. a.action) same ∙ commit)) [
          | inl none ↦ ap (λ diff. document_part schemas member m diff) none ∙ nothing_of ∙ sym none
          | inr all ↦ ap (λ b. cond b [] (accept_ops schemas member.plan m push.diff)) all.0 ∙ all.2
        ]

    entry_commits : (room : Room) (n : ℕ) (s : Session) (plan : Plan) (push : Push) → is_taken schemas (member_of n s plan) push ≡ true
        → (author : Author) → (pushed_by schemas room n s plan push).author ≡ Some author → IsCommitOf plan (document_ops schemas (pushed_by schemas room n s plan push).diff) author.action
    entry_commits room n s plan push taken author by =
        let member = member_of n s plan in
        let m = records_of room.history in
        let part = accept_ops schemas plan m push.diff in
        let o = option_and_then (presence_part schemas member m) push.presence in
        let made : RecordOps → Author = λ part. record { session = n; client_clock = push.client_clock; action = action_of plan push.diff part } in
        elim s.readonly as (λ b. (b || is_fit schemas plan push.diff) ≡ true → Some (made (cond b [] part)) ≡ Some author → IsCommitOf plan (document_ops schemas (added (cond b [] part) (presence_id n) o)) author.action) [
          | true ↦ λ fit is.
              let same : made [] ≡ author = cc in
              subst (λ a. IsCommitOf plan (document_ops schemas (added [] (presence_id n) o)) a.action) same
              (subst (λ ops. IsCommitOf plan ops (action_of plan push.diff [])) (sym (document_added n [] o refl)) (action_commits plan push.diff [] (λ none. refl)))
          | false ↦ λ fit is.
              let same : made part ≡ author = cc in
              let documents = all-accepted schemas plan schemas.is_document m push.diff (fit_documents schemas plan push.diff fit) in
              subst (λ a. IsCommitOf plan (document_ops schemas (added part (presence_id n) o)) a.action) same
              (subst (λ ops. IsCommitOf plan ops (action_of plan push.diff part)) (sym (document_added n part o documents))
              (action_commits plan push.diff part (λ none. ap (λ diff. accept_ops schemas plan m diff) none)))
        ] (and_left _ _ taken) by

    pushed_commits : (room : Room) (n : ℕ) (s : Session) (sent : ℕ) (plan : Plan) (push : Push) → slice_get room.sessions n ≡ Some s → s.phase ≡ live sent plan
        → is_taken schemas (member_of n s plan) push ≡ true → Committed room → Committed (record room { history = pushed_by schemas room n s plan push ∷ room.history })
    pushed_commits room n s sent plan push at is taken h = λ k.
        let entry = pushed_by schemas room n s plan push in
        by_number (λ b. CommitsAt k (slice_get room.sessions k) (entry ∷ room.history)) k n
        (λ same.
        let found : slice_get room.sessions k ≡ Some s = ap (slice_get room.sessions) same ∙ at in
        let before : AllCommit schemas k plan room.history = subst (λ p. CommitsIn k p room.history) is (subst (λ o. CommitsAt k o room.history) found (h k)) in
        subst (λ o. CommitsAt k o (entry ∷ room.history)) (sym found) (subst (λ p. CommitsIn k p (entry ∷ room.history)) (sym is)
        (λ author by mine. entry_commits room n s plan push taken author by, before)))
        (λ apart. further k (slice_get room.sessions k) entry room.history (λ author by mine. let same : n ≡ author.session = cc in apart (sym (same ∙ mine))) (h k))

    begun_committed : (room : Room) → IsBeginning schemas room → Committed room
    begun_committed _ (anew last) number = tt
    begun_committed _ (loaded last saved fits) number = begun_by_none number saved (nat_abs saved.clock)

    pub reachable_commits : (room : Room) → Reachable schemas room → (number : ℕ) (s : Session) (sent : ℕ) (plan : Plan)
        → slice_get room.sessions number ≡ Some s → s.phase ≡ live sent plan → AllCommit schemas number plan room.history
    reachable_commits room reached number s sent plan at is =
        let all : Committed room = everywhere schemas Committed begun_committed
        (λ o rises. step_keeps Committed set_commits (λ r n here. removal_commits r n) schemas o
        (λ r readonly h number. added_commits number r.history _ refl r.sessions number (h number))
        (λ r n s sent plan said push some says at is taken. pushed_commits r n s sent plan push at is taken))
        room reached in
        subst (λ p. CommitsIn number p room.history) is (subst (λ o. CommitsAt number o room.history) at (all number))
