-- What comes next to a client is what the client expects, and to take it is the delivery.
use Rattle.std.proofs.Common.{◌≡◌, inl, inr, ℕ, ◌<◌, ◌≤◌, nat_lt, ℤ, pos, negsuc, Bool, true, false, cond, List, [], ◌∷◌, ◌++◌, length, map, filter, slice_get, Some, None, Ok, Err, Result, refl, sym, ap, subst, ◌∙◌, arith}
use Rattle.std.proofs.lemmas.Bool.Decides.{nat_tests}
use Rattle.rooms_val.specs.Data.{Data, Pairs}
use Rattle.room_model.specs.Schemas.{WorldSchemas, AreLawfulTogether, Plan, Member, records_with, doc, pres, seen_along}
use Rattle.room_model.specs.Histories.{History, records_of, oldest, up_to, above, start_of}
use Rattle.room_model.specs.Acting.{AllCommit}
use Rattle.room_model.specs.Messages.{known_clock, hydration, snapshot_diff, others_of}
use Rattle.room_model.specs.Bases.{is_told, whole_for, AreAnswered}
use Rattle.room_model.specs.Taking.{after_events, after_hydration}
use Rattle.room_model.specs.Rooms.{Session, Notice, snapshot_at, updates_between, pong, end}
use Rattle.room_model.specs.Replicas.{Client, is_open, session_of, after_end, after_notice, schema_of, plan_of, seen_by, reached_records, base_of, others_by}
use Rattle.room_model.specs.Worlds.{Channel, World, with_channel}
use Rattle.room_model.specs.declared.connection.Connection.{Connection}
use Rattle.room_model.specs.declared.connection.Connection.TheVariants.{Off, Asking, Open}
use Rattle.room_model.proofs.ActingLemmas.{differ}
use Rattle.rooms_val.proofs.Truths.{or_right}
use Rattle.room_model.proofs.AnswerLemmas.{answered_before}
use Rattle.room_model.proofs.BaseLemmas.{rising-records, wiped_all, hydrated, whole_document, whole_presence}
use Rattle.room_model.proofs.EntryLemmas.{reachable_acts}
use Rattle.room_model.proofs.HistoryLemmas.{filter_through}
use Rattle.room_model.proofs.OldestLemmas.{oldest_twice, length-oldest, acting-oldest, commit-oldest}
use Rattle.room_model.proofs.UpdateLemmas.{updated}
use Rattle.sync_msgs.specs.declared.end_reason.EndReason.{EndReason}
use Rattle.sync_msgs.specs.declared.end_reason.EndReason.TheVariants.{ClientTooOld, ServerTooOld, InvalidRecord, RoomFull, Slow}
use Rattle.world_laws.specs.Reachable.{ReachableWorld}
use Rattle.world_laws.specs.Clocks.{AreWithin}
use Rattle.world_laws.specs.Requests.{IsFit, HasNoData}
use Rattle.world_laws.specs.Told.{plan_or_none, AreInOrder, clock_after, IsExpected, member_in, told, base_by, IsTaken}
use Rattle.world_laws.proofs.EventLemmas.{Keeps, everywhere}
use Rattle.world_laws.proofs.PushLemmas.{each_set, each_added, snapshot_same, pushing_keeps}
use Rattle.world_laws.proofs.RoomLemmas.{Gives, tells_end, answers, pongs, tells, drain_gives}
use Rattle.world_laws.proofs.DiffLemmas.{room_reached}
use Rattle.world_laws.proofs.ClockLemmas.{clocks_stand, end_reached}
use Rattle.world_laws.proofs.PingLemmas.{pings_stand}
use Rattle.world_laws.proofs.DueLemmas.{next_due}
use Rattle.world_laws.proofs.BarredLemmas.{barred_stand}
use Rattle.world_laws.proofs.OwedLemmas.{owed_stand}
use Rattle.room_model.proofs.ClientLemmas.{end_version}
use Rattle.world_laws.proofs.CommittedLemmas.{committed_stand}
use Rattle.world_laws.proofs.OrderLemmas.{events_told, updates_brought, owed_answered}
use Rattle.world_laws.proofs.ToldLemmas.{session_in}

-- no pong is in flight

abbrev HasNoPong : List Notice → Type 0
HasNoPong [] = Unit {0}
HasNoPong (snapshot_at clock ∷ notices) = HasNoPong notices
HasNoPong (updates_between from to ∷ notices) = HasNoPong notices
HasNoPong (pong ∷ notices) = ⊥
HasNoPong (end reason ∷ notices) = HasNoPong notices

abbrev Quiet : Channel → Type 0
Quiet channel = HasNoPong channel.to_client

abbrev AreQuiet : World → Type 0
AreQuiet world = (k : ℕ) (channel : Channel) → slice_get world.channels k ≡ Some channel → Quiet channel

no_pong_joined : (xs ys : List Notice) → HasNoPong xs → HasNoPong ys → HasNoPong (xs ++ ys)
no_pong_joined [] ys h k = k
no_pong_joined (snapshot_at clock ∷ xs) ys h k = no_pong_joined xs ys h k
no_pong_joined (updates_between from to ∷ xs) ys h k = no_pong_joined xs ys h k
no_pong_joined (pong ∷ xs) ys h k = absurd h
no_pong_joined (end reason ∷ xs) ys h k = no_pong_joined xs ys h k

no_pong_later : (notice : Notice) (notices : List Notice) → HasNoPong (notice ∷ notices) → HasNoPong notices
no_pong_later (snapshot_at clock) notices h = h
no_pong_later (updates_between from to) notices h = h
no_pong_later pong notices h = absurd h
no_pong_later (end reason) notices h = h

no_pong_given : (room : _) (n : ℕ) (s : Session) (notice : Notice) (after : Session) → Gives room n s notice after → s.pings ≡ 0 → HasNoPong (notice ∷ [])
no_pong_given room n s _ _ (tells_end reason is) none = tt
no_pong_given room n s _ _ (answers request reached plan is) none = tt
no_pong_given room n s _ _ (pongs some) none = absurd (omega arith)
no_pong_given room n s _ _ (tells sent plan is less) none = tt

module _ {F : Type 0} (schemas : WorldSchemas F) where
  quiet_keep : Keeps schemas AreQuiet
  quiet_keep = record {
    joins = λ w version made h. h;
    rests = λ w n c d made at q h. h;
    cuts = λ w n k c made at is h. h;
    acts = λ w n c p made at acts h. pushing_keeps AreQuiet w n p h (λ k channel is there. each_set Quiet w.channels k _ h (h k channel there));
    asks = λ w n readonly c made at off place h. each_added Quiet w.channels _ h tt;
    loses = λ w k channel room made at is h. each_set Quiet w.channels k _ h (h k channel at);
    handles = λ w k channel said messages replied made at first is h. each_set Quiet w.channels k _ h (h k channel at);
    sends = λ w k channel given made at is h.
        let on = drain_gives schemas.room w.room k given is in
        each_set Quiet w.channels k _ h (no_pong_joined channel.to_client (given.notice ∷ []) (h k channel at)
        (no_pong_given w.room k on.0 given.notice given.after on.2 ((pings_stand schemas w made).none_waits k on.0 on.1.at)));
    delivers = λ w n k c channel notice notices made at is there first h.
        let v = with_channel k (record channel { to_client = notices }) w in
        let now : AreQuiet v = each_set Quiet w.channels k (record channel { to_client = notices }) h (no_pong_later notice notices (subst HasNoPong first (h k channel there))) in
        pushing_keeps AreQuiet v n (after_notice w.room.history k c notice) now (λ j other is at. each_set Quiet v.channels j _ now (now j other at));
  }

  quiet_stand : (w : World) → ReachableWorld schemas w → AreQuiet w
  quiet_stand w made = everywhere schemas AreQuiet quiet_keep (λ room reached none k channel at. absurd (cc)) w made

-- a document, and what is seen of it

filter_seen : (test : List ℕ → Bool) (f : Data → Data) (m : Pairs) → let seen : Pairs → Pairs = λ m. map (λ p. (p.0, f p.1)) m in records_with test (seen m) ≡ seen (records_with test m)
filter_seen test f [] = refl
filter_seen test f (p ∷ m) =
    let seen : Pairs → Pairs = λ m. map (λ p. (p.0, f p.1)) m in
    let kept = records_with test in
    elim (test p.0) as (λ b. cond b ((p.0, f p.1) ∷ kept (seen m)) (kept (seen m)) ≡ seen (cond b (p ∷ kept m) (kept m))) [
      | true ↦ ap (λ rest. (p.0, f p.1) ∷ rest) (filter_seen test f m)
      | false ↦ filter_seen test f m
    ]

filter_apart : (test other : List ℕ → Bool) → ((id : List ℕ) → test id ≡ true → other id ≡ false) → (m : Pairs) → records_with other (records_with test m) ≡ []
filter_apart test other apart [] = refl
filter_apart test other apart (p ∷ m) =
    let kept : Pairs = filter (λ p. test p.0) m in
    elim (test p.0) as (λ b. test p.0 ≡ b → records_with other (cond b (p ∷ kept) kept) ≡ []) [
      | true ↦ λ is. ap (λ b. cond b (p ∷ records_with other kept) (records_with other kept)) (apart p.0 is) ∙ filter_apart test other apart m
      | false ↦ λ is. filter_apart test other apart m
    ] refl

module _ {F : Type 0} (schemas : WorldSchemas F) where
  document_again : (plan : Plan) (m : Pairs) → doc schemas.room (seen_along schemas.room plan (doc schemas.room m)) ≡ seen_along schemas.room plan (doc schemas.room m)
  document_again plan m =
      filter_seen schemas.room.is_document (schemas.room.lower plan) (doc schemas.room m)
      ∙ ap (λ d. seen_along schemas.room plan d) (filter_through (λ p. schemas.room.is_document p.0) (λ p. schemas.room.is_document p.0) (λ p is. is) m)

  seen_again : (o : Result Plan EndReason) (m : Pairs) → doc schemas.room (seen_by schemas o (doc schemas.room m)) ≡ seen_by schemas o (doc schemas.room m)
  seen_again (Ok plan) m = document_again plan m
  seen_again (Err reason) m = filter_through (λ p. schemas.room.is_document p.0) (λ p. schemas.room.is_document p.0) (λ p is. is) m

  seen_apart : AreLawfulTogether schemas → (o : Result Plan EndReason) (m : Pairs) → pres schemas.room (seen_by schemas o (doc schemas.room m)) ≡ []
  seen_apart lawful (Ok plan) m =
      filter_seen schemas.room.is_presence (schemas.room.lower plan) (doc schemas.room m) ∙ ap (λ d. seen_along schemas.room plan d) (filter_apart schemas.room.is_document schemas.room.is_presence lawful.room.apart m)
  seen_apart lawful (Err reason) m = filter_apart schemas.room.is_document schemas.room.is_presence lawful.room.apart m

  -- the room would have a client that is connected
  open_fit : (w : World) (n k : ℕ) (c : Client) → ReachableWorld schemas w → slice_get w.clients n ≡ Some c → c.connection ≡ Open k → IsFit schemas c
  open_fit w n k c made at opened = elim ((barred_stand schemas w made).reached n c at) [ inl fit ↦ fit | inr none ↦ absurd (differ (sym (ap is_open opened) ∙ none.1)) ]

  -- the base of a client has the document and the presence of others
  module _ (lawful : AreLawfulTogether schemas) (w : World) (n : ℕ) (c : Client) (made : ReachableWorld schemas w) (at : slice_get w.clients n ≡ Some c) where
    abbrev HasParts : Connection → Type 0
    HasParts x =
        (doc schemas.room (base_by schemas w.room.history c x) ≡ base_of schemas w.room.history c)
        × (pres schemas.room (base_by schemas w.room.history c x) ≡ others_by schemas w.room.history c x)

    parts_by : (x : Connection) → c.connection ≡ x → HasParts x
    parts_by Off is = (seen_again (plan_of schemas c) (reached_records schemas w.room.history c), seen_apart lawful (plan_of schemas c) (reached_records schemas w.room.history c))
    parts_by (Asking k) is = (seen_again (plan_of schemas c) (reached_records schemas w.room.history c), seen_apart lawful (plan_of schemas c) (reached_records schemas w.room.history c))
    parts_by (Open k) is =
        let fit = open_fit w n k c made at is in
        let m = reached_records schemas w.room.history c in
        let rising = rising-records (up_to c.reached w.room.history) in
        subst (λ o. (doc schemas.room (seen_by schemas o (records_with (is_told schemas.room k) m)) ≡ seen_by schemas o (doc schemas.room m))
        × (pres schemas.room (seen_by schemas o (records_with (is_told schemas.room k) m)) ≡ seen_by schemas o (others_of schemas.room k m))) (sym fit.1)
        (whole_document schemas.room lawful.room fit.0 k m rising, whole_presence schemas.room lawful.room fit.0 k m rising)

    pub has_parts : HasParts c.connection
    has_parts = parts_by c.connection refl

  -- a snapshot

  short : (clock : ℕ) (history : History) → clock ≤ length history → length (oldest clock history) ≡ clock
  short clock history less = let h = length-oldest clock history in omega arith

  snapshot_brings : (admits : List ℕ → Data → Bool) (member : Member) (reached : ℤ) (first clock : ℕ) (history : History) (base : Pairs) → clock ≤ length history
      → base ≡ seen_along schemas.room member.plan (doc schemas.room (records_of (up_to reached history)))
      → let h = oldest clock history in let known = known_clock reached (start_of first h) (length h) in
      after_hydration admits schemas.room.is_document base (hydration known) (snapshot_diff schemas.room member known h) ≡ whole_for schemas.room member.plan member.session (records_of h)
  snapshot_brings admits member (negsuc n) first clock history base less is = wiped_all schemas.room admits member (oldest clock history) base
  snapshot_brings admits member (pos r) first clock history base less is =
      let h = oldest clock history in
      let start = start_of first h in
      elim (nat_lt clock r) as (λ b. nat_lt clock r ≡ b → let known = known_clock (pos r) start (length h) in
      after_hydration admits schemas.room.is_document base (hydration known) (snapshot_diff schemas.room member known h) ≡ whole_for schemas.room member.plan member.session (records_of h)) [
        | true ↦ λ above.
            let unknown : known_clock (pos r) start (length h) ≡ None =
            ap (λ b. cond b None (Some r)) (or_right (nat_lt r start) (nat_lt (length h) r) (ap (λ n. nat_lt n r) (short clock history less) ∙ above)) in
            subst (λ known. after_hydration admits schemas.room.is_document base (hydration known) (snapshot_diff schemas.room member known h) ≡ whole_for schemas.room member.plan member.session (records_of h))
            (sym unknown) (wiped_all schemas.room admits member h base)
        | false ↦ λ within.
            let part : oldest r h ≡ oldest r history = oldest_twice r clock history (grind (arith, nat_tests)) in
            hydrated schemas.room admits member (pos r) first h base
            (ap (λ b. doc schemas.room b) is ∙ document_again member.plan (records_of (oldest r history)) ∙ ap (λ h. seen_along schemas.room member.plan (doc schemas.room (records_of h))) (sym part))
      ] refl

  -- what is seen by who has a plan
  seen_fit : (c : Client) (plan : Plan) (m : Pairs) → plan_of schemas c ≡ Ok plan → seen_by schemas (plan_of schemas c) m ≡ seen_along schemas.room (plan_or_none (plan_of schemas c)) m
  seen_fit c plan m planned = ap (λ o. seen_by schemas o m) planned ∙ sym (ap (λ o. seen_along schemas.room (plan_or_none o) m) planned)

  -- the base of who is connected
  open_base : (history : History) (c : Client) (k clock : ℕ) (plan : Plan) → c.connection ≡ Open k → c.reached ≡ pos clock → plan_of schemas c ≡ Ok plan
      → base_by schemas history c c.connection ≡ whole_for schemas.room (plan_or_none (plan_of schemas c)) k (records_of (oldest clock history))
  open_base history c k clock plan opened reached planned =
      ap (base_by schemas history c) opened
      ∙ ap (λ r. seen_by schemas (plan_of schemas c) (records_with (is_told schemas.room k) (records_of (up_to r history)))) reached
      ∙ seen_fit c plan (records_with (is_told schemas.room k) (records_of (oldest clock history))) planned

  module _ (lawful : AreLawfulTogether schemas) (w : World) (n k : ℕ) (c : Client) (channel : Channel) (made : ReachableWorld schemas w) (at : slice_get w.clients n ≡ Some c)
      (has : session_of c.connection ≡ Some k) (opened : slice_get w.channels k ≡ Some channel) where
    abbrev history : History
    history = w.room.history

    abbrev member : Member
    member = member_in schemas w.room c k

    abbrev Does : Notice → Type 0
    Does notice =
        let out = told schemas w.room c k notice in
        IsExpected c k out × IsTaken schemas history c out (after_notice history k c notice).client

    snapshot_taken : (clock : ℕ) → c.connection ≡ Asking k → clock ≤ length history → IsFit schemas c → Does (snapshot_at clock)
    snapshot_taken clock asks less fit =
        let same = snapshot_same k clock c in
        let after = (after_notice history k c (snapshot_at clock)).client in
        let plans : plan_of schemas after ≡ plan_of schemas c = ap (λ v. schemas.room.plan_for (schemas.client v).versions) same.version in
        let before : base_by schemas history c c.connection ≡ seen_along schemas.room member.plan (doc schemas.room (records_of (up_to c.reached history))) =
        ap (base_by schemas history c) asks ∙ seen_fit c fit.0 _ fit.1 in
        let now : base_by schemas history after after.connection ≡ whole_for schemas.room member.plan k (records_of (oldest clock history)) =
        open_base history after k clock fit.0 same.connection same.reached (plans ∙ fit.1) ∙ ap (λ o. whole_for schemas.room (plan_or_none o) k (records_of (oldest clock history))) plans in (
          (asks, refl),
          (
            ap pos (short clock history less) ∙ sym same.reached,
            snapshot_brings (schema_of schemas c).admits member c.reached w.room.first clock history (base_by schemas history c c.connection) less before ∙ sym now,
          ),
        )

    updates_taken : (from to : ℕ) → c.connection ≡ Open k → c.reached ≡ pos from → from < to → to ≤ length history → IsFit schemas c → Does (updates_between from to)
    updates_taken from to on reached less within fit =
        let h = oldest to history in
        let items = c.pending in
        let session = session_in schemas w n k c made at has in
        let owes = owed_stand schemas lawful w made n k from c session.0 channel at on reached session.1 opened in
        let events = events_told schemas.room member from h in
        let between : from ≤ to = omega arith in
        let answers : AreAnswered schemas.room k items (above from h) = answered_before schemas.room k from to history items between (owed_answered schemas.room _ k from history items channel.to_room owes.owed) in
        let room = room_reached schemas lawful w made in
        let acts = acting-oldest schemas.room to history (reachable_acts schemas.room w.room lawful.room room) in
        let plan_is : fit.0 ≡ member.plan = sym (ap plan_or_none fit.1) in
        let commits : AllCommit schemas.room k member.plan h = subst (λ p. AllCommit schemas.room k p h) plan_is
        (commit-oldest schemas.room to k fit.0 history (committed_stand schemas lawful w made n k c fit.0 at has fit.1)) in
        let length_is = short to history within in
        let brought = updates_brought schemas.room member from h items (let e = length_is in omega arith) answers in
        let admits = (schema_of schemas c).admits in
        let done = updated schemas.room lawful.room member admits (λ none. lawful.same c.version (fit.1 ∙ ap Ok (plan_is ∙ none))) from h items events acts commits answers refl in
        let after = (after_notice history k c (updates_between from to)).client in
        let base_before : base_by schemas history c c.connection ≡ whole_for schemas.room member.plan k (records_of (oldest from h)) =
        open_base history c k from fit.0 on reached fit.1 ∙ ap (λ g. whole_for schemas.room member.plan k (records_of g)) (sym (oldest_twice from to history between)) in
        let base_after = open_base history after k to fit.0 on refl fit.1 in (
          (on, subst (λ r. AreInOrder r items events) (sym reached) brought.order),
          (
            ap (λ r. clock_after r events) reached ∙ brought.clock ∙ ap pos length_is,
            (λ i. after_events admits (record { base = base_before i; pending = items }) events) ∙ done ∙ sym (λ i. record { base = base_after i; pending = after.pending }),
          ),
        )

    end_taken : (reason : EndReason) → Does (end reason)
    end_taken reason =
        let after = after_end reason c in
        let version = end_version reason c in
        let reached = end_reached reason c in
        let off : after.connection ≡ Off = elim reason as (λ r. (after_end r c).connection ≡ Off) [ Slow ↦ refl | ClientTooOld ↦ refl | ServerTooOld ↦ refl | InvalidRecord ↦ refl | RoomFull ↦ refl ] in
        let same : base_of schemas history after ≡ base_of schemas history c =
        λ i. seen_by schemas (schemas.room.plan_for (schemas.client (version i)).versions) (doc schemas.room (records_of (up_to (reached i) history))) in
        (tt, (sym reached, (has_parts lawful w n c made at).0 ∙ sym same ∙ sym (ap (base_by schemas history after) off)))

    does : (notice : Notice) (notices : List Notice) → channel.to_client ≡ notice ∷ notices → Does notice
    does (snapshot_at clock) notices first =
        let due = next_due schemas w n k c channel (snapshot_at clock) notices made at has opened first in
        let within = subst (AreWithin (length history)) first ((clocks_stand schemas w made).told k channel opened) in
        let fit : IsFit schemas c = elim ((barred_stand schemas w made).told n k c channel at has opened) [ inl fit ↦ fit | inr none ↦ absurd (subst HasNoData first none) ] in
        snapshot_taken clock due within.0 fit
    does (updates_between from to) notices first =
        let due = next_due schemas w n k c channel (updates_between from to) notices made at has opened first in
        let within = subst (AreWithin (length history)) first ((clocks_stand schemas w made).told k channel opened) in
        updates_taken from to due.0 due.1 due.2 within.0.1 (open_fit w n k c made at due.0)
    does pong notices first = absurd (subst HasNoPong first (quiet_stand schemas w made k channel opened))
    does (end reason) notices first = end_taken reason

  pub takes_next : (w : World) (n k : ℕ) (c : Client) (channel : Channel) (notice : Notice) (notices : List Notice) → AreLawfulTogether schemas → ReachableWorld schemas w
      → slice_get w.clients n ≡ Some c → session_of c.connection ≡ Some k → slice_get w.channels k ≡ Some channel → channel.to_client ≡ notice ∷ notices
      → let out = told schemas w.room c k notice in IsExpected c k out × IsTaken schemas w.room.history c out (after_notice w.room.history k c notice).client
  takes_next w n k c channel notice notices lawful made at has opened first = does lawful w n k c channel made at has opened notice notices first
