-- That a client which follows its session has the room's base.
use Rattle.std.proofs.Common.{◌≡◌, inl, inr, ℕ, zero, suc, ◌+◌, ◌≤◌, ◌==◌, nat_lt, ℤ, pos, negsuc, Bool, true, false, cond, List, [], ◌∷◌, ◌++◌, drop, fold, count_by, length, slice_get, Option, Some, None, option_map, refl, sym, ap, subst, ◌∙◌, arith}
use Rattle.std.specs.List.{cons_option}
use Rattle.std.proofs.lemmas.Bool.Decides.{nat_tests, Decides-eqb}
use Rattle.std.proofs.lemmas.List.Sums.{fold-append, sum_by-cons, sum_by-append}
use Rattle.std.proofs.lemmas.Option.{same_Some}
use Rattle.rooms_val.specs.Data.{Data}
use Rattle.room_model.specs.Schemas.{Schemas, AreLawful, Plan}
use Rattle.room_model.specs.Histories.{History, records_of, oldest, above, is_by}
use Rattle.room_model.specs.Accepting.{Push, is_taken}
use Rattle.room_model.specs.Closing.{push_of}
use Rattle.room_model.specs.Messages.{snapshot, updates}
use Rattle.room_model.specs.Bases.{IsAnswered, AreAnswered}
use Rattle.room_model.specs.Reachable.{anew, Reachable, begins}
use Rattle.room_model.specs.Replicas.{Pending}
use Rattle.room_model.specs.Taking.{Replica}
use Rattle.room_model.specs.Rooms.{Phase, new, asked, live, ended, gone, Session, Room, new_room}
use Rattle.room_model.specs.declared.history.Author.{Author}
use Rattle.room_model.specs.declared.history.Entry.{Entry}
use Rattle.room_model.proofs.AnswerLemmas.{answered_after}
use Rattle.room_model.proofs.BaseLemmas.{wiped_all}
use Rattle.room_model.proofs.CallLemmas.{member_of, pushed_by as entry_by}
use Rattle.room_model.proofs.CommitLemmas.{commit_pushed, reachable_commits}
use Rattle.room_model.proofs.ClosingLemmas.{by_number}
use Rattle.room_model.proofs.EntryLemmas.{reachable_acts}
use Rattle.room_model.proofs.UpdateLemmas.{updated}
use Rattle.room_events.specs.Events.{session_of, events_of}
use Rattle.room_events.specs.Following.{Follower, pushed_by, pushes_of, IsPushOf, ArePushed, Asks, AllAsk, Follows, replica_given, replica_after, first_replica, replica_of, told_replica}
use Rattle.room_events.specs.Legal.{room_after, AllHappen, Legal, state_of}
use Rattle.room_events.specs.Told.{told_by, told_after, told_up_to}
use Rattle.room_events.specs.declared.room_event.RoomEvent.{RoomEvent}
use Rattle.room_events.specs.declared.room_event.RoomEvent.TheVariants.{Message}
use Rattle.room_events.proofs.LegalLemmas.{reached}
use Rattle.room_events.proofs.SeenLemmas.{phase_at, over_at, Grows, same, more, Still, IsQuiet, Seen, passes, enters, asks, pings, takes, closes, leaves, answers, tells, quiet, seen}
use Rattle.room_events.proofs.ToldLemmas.{updates_told}
use Rattle.sync_msgs.specs.declared.out.Out.{Out}
use Rattle.sync_msgs.specs.declared.out.Out.TheVariants as out
use Rattle.sync_msgs.specs.declared.server_message.ServerMessage.TheVariants as reply

oldest_all : (history : History) → oldest (length history) history ≡ history
oldest_all [] = refl
oldest_all (entry ∷ history) =
    elim (nat_lt (length history) (suc (length history))) as (λ b. nat_lt (length history) (suc (length history)) ≡ b → cond b (entry ∷ history) (oldest (suc (length history)) history) ≡ entry ∷ history) [
      | true ↦ λ is. refl
      | false ↦ λ is. absurd (grind (arith, nat_tests))
    ] refl

oldest_more : (clock : ℕ) (entry : Entry) (history : History) → clock ≤ length history → oldest clock (entry ∷ history) ≡ oldest clock history
oldest_more clock entry history less =
    elim (nat_lt (length history) clock) as (λ b. nat_lt (length history) clock ≡ b → cond b (entry ∷ history) (oldest clock history) ≡ oldest clock history) [
      | true ↦ λ is. absurd (grind (arith, nat_tests))
      | false ↦ λ is. refl
    ] refl

above_all : (history : History) → above 0 history ≡ history
above_all [] = refl
above_all (entry ∷ history) =
    elim (nat_lt (length history) 0) as (λ b. nat_lt (length history) 0 ≡ b → cond b [] (entry ∷ above 0 history) ≡ entry ∷ history) [
      | true ↦ λ is. absurd (grind (arith, nat_tests))
      | false ↦ λ is. ap (λ rest. entry ∷ rest) (above_all history)
    ] refl

parts : (clock : ℕ) (history : History) → above clock history ++ oldest clock history ≡ history
parts clock [] = refl
parts clock (entry ∷ history) =
    elim (nat_lt (length history) clock) as (λ b. cond b [] (entry ∷ above clock history) ++ cond b (entry ∷ history) (oldest clock history) ≡ entry ∷ history) [
      | true ↦ refl
      | false ↦ ap (λ rest. entry ∷ rest) (parts clock history)
    ]

drop_twice : {X : Type 0} (xs : List X) (a b c : ℕ) → c ≡ a + b → drop b (drop a xs) ≡ drop c xs
drop_twice xs zero b c is = let e : b ≡ c = omega arith in ap (λ k. drop k xs) e
drop_twice [] (suc a) b zero is = absurd (omega arith)
drop_twice [] (suc a) zero (suc c) is = refl
drop_twice [] (suc a) (suc b) (suc c) is = refl
drop_twice (x ∷ xs) (suc a) b zero is = absurd (omega arith)
drop_twice (x ∷ xs) (suc a) b (suc c) is = drop_twice xs a b c (omega arith)

-- once all up to a clock was told, the entries above it are answered by the items that are left
pub left_answered : (schemas : Schemas) (n : ℕ) (items : List Pending) (sent : ℕ) (history : History) → AreAnswered schemas n items history
    → AreAnswered schemas n (drop (count_by (is_by n) (oldest sent history)) items) (above sent history)
left_answered schemas n items sent history answered =
    let none : 0 ≤ sent = omega arith in
    let all : AreAnswered schemas n items (above 0 history) = subst (AreAnswered schemas n items) (sym (above_all history)) answered in
    let after = answered_after schemas n 0 sent history items none all in
    subst (λ es. AreAnswered schemas n (drop (count_by (is_by n) es) items) (above sent history)) (above_all (oldest sent history)) after

-- a replica by its parts
replica_is : (a b : Replica) → a.base ≡ b.base → a.pending ≡ b.pending → a ≡ b
replica_is a b p q = λ i. record { base = p i; pending = q i }

-- further entries that aren't by a session
module _ (schemas : Schemas) (n : ℕ) (items : List Pending) where
  not_own : (entry : Entry) (author : Author) → is_by n entry ≡ false → entry.author ≡ Some author → author.session ≡ n → ⊥
  not_own entry author by is of_ =
      let no : (author.session == n) ≡ false = sym (ap (λ o. is_author_of o) is) ∙ by in
      let yes : (author.session == n) ≡ true = (Decides-eqb author.session n).1 of_ in
      cc
    where
      is_author_of : Option Author → Bool
      is_author_of None = false
      is_author_of (Some author) = author.session == n

  grown_answered : (history after : History) → Grows n history after → AreAnswered schemas n items history → AreAnswered schemas n items after
  grown_answered history _ same h = h
  grown_answered history _ (more entry after by k) h = (λ author is of_. absurd (not_own entry author by is of_), grown_answered history after k h)

grown_count : (n : ℕ) (history after : History) → Grows n history after → count_by (is_by n) after ≡ count_by (is_by n) history
grown_count n history _ same = refl
grown_count n history _ (more entry after by k) =
    let one : count_by (is_by n) (entry ∷ after) ≡ cond (is_by n entry) 1 0 + count_by (is_by n) after = sum_by-cons (λ e. cond (is_by n e) 1 0) entry after in
    let none : cond {A = ℕ} (is_by n entry) 1 0 ≡ 0 = ap (λ (b : Bool). cond {A = ℕ} b 1 0) by in
    let rest = grown_count n history after k in
    omega (arith, one, none, rest)

grown_length : (n : ℕ) (history after : History) → Grows n history after → length history ≤ length after
grown_length n history _ same = omega arith
grown_length n history _ (more entry after by k) = let rest = grown_length n history after k in omega arith

grown_oldest : (n : ℕ) (history after : History) → Grows n history after → (clock : ℕ) → clock ≤ length history → oldest clock after ≡ oldest clock history
grown_oldest n history _ same clock less = refl
grown_oldest n history _ (more entry after by k) clock less =
    let most = grown_length n history after k in
    oldest_more clock entry after (omega arith) ∙ grown_oldest n history after k clock less

-- an event of another session adds no entry of this one
other_grows : (schemas : Schemas) (n : ℕ) (room : Room) (event : RoomEvent) (after : Room) → Seen schemas n room event after → (session_of event ≡ n → ⊥) → Grows n room.history after.history
other_grows schemas n room _ _ (passes event after apart s) other = s.grows
other_grows schemas n room _ _ (enters readonly after none now is) other = absurd (other refl)
other_grows schemas n room _ _ (asks request reached protocol versions replied plan after was now planned is) other = absurd (other refl)
other_grows schemas n room _ _ (pings replied after s) other = absurd (other refl)
other_grows schemas n room _ _ (takes what replied s sent plan push after says at is taken rest) other = absurd (other refl)
other_grows schemas n room _ _ (closes what replied after over grows) other = absurd (other refl)
other_grows schemas n room _ _ (leaves after over grows) other = absurd (other refl)
other_grows schemas n room _ _ (answers s request reached plan after at is now same_) other = absurd (other refl)
other_grows schemas n room _ _ (tells s sent plan after at is less now same_) other = absurd (other refl)
other_grows schemas n room _ _ (quiet given after none s) other = absurd (other refl)

module _ (schemas : Schemas) where
  -- of a history the oldest stay, whatever happens
  all_grow : (room : Room) (events : List RoomEvent) → AllHappen schemas room events → (clock : ℕ) → clock ≤ length room.history
      → oldest clock (fold (room_after schemas) room events).history ≡ oldest clock room.history
  all_grow room [] all clock less = refl
  all_grow room (event ∷ events) all clock less =
      let n = suc (session_of event) in
      let grows = other_grows schemas n room event all.0 (seen schemas room n event all.0 all.1) (λ is. absurd (omega arith)) in
      let most = grown_length n room.history all.0.history grows in
      ap (λ r. oldest clock (fold (room_after schemas) r events).history) all.1.1
      ∙ all_grow all.0 events all.2 clock (omega arith)
      ∙ grown_oldest n room.history all.0.history grows clock less

  rest_happen : (room : Room) (before after : List RoomEvent) → AllHappen schemas room (before ++ after) → AllHappen schemas (fold (room_after schemas) room before) after
  rest_happen room [] after all = all
  rest_happen room (event ∷ before) after all = subst (λ r. AllHappen schemas (fold (room_after schemas) r before) after) (sym all.1.1) (rest_happen all.0 before after all.2)

  pub history_grows : (last : ℕ) (before after : List RoomEvent) → Legal schemas last (before ++ after)
      → oldest (length (state_of schemas last before).history) (state_of schemas last (before ++ after)).history ≡ (state_of schemas last before).history
  unfolding Legal state_of
  history_grows last before after legal =
      let room = fold (room_after schemas) (new_room last) before in
      let least : length room.history ≤ length room.history = omega arith in
      ap (λ r. oldest (length room.history) r.history) (fold-append (room_after schemas) (new_room last) before after)
      ∙ all_grow room after (rest_happen (new_room last) before after legal) (length room.history) least
      ∙ oldest_all room.history

-- a history doesn't get shorter
longer : (schemas : Schemas) (n : ℕ) (room : Room) (event : RoomEvent) (after : Room) → Seen schemas n room event after → length room.history ≤ length after.history
longer schemas n room event after (passes _ _ apart s) = grown_length n room.history after.history s.grows
longer schemas n room _ after (enters readonly _ none now is) = let size = ap length is in omega arith
longer schemas n room _ after (asks request reached protocol versions replied plan _ was now planned is) = let size = ap length is in omega arith
longer schemas n room _ after (pings replied _ s) = grown_length n room.history after.history s.grows
longer schemas n room _ after (takes what replied s sent plan push _ says at is taken rest) =
    let least = grown_length n (entry_by schemas room n s plan push ∷ room.history) after.history rest.grows in omega arith
longer schemas n room _ after (closes what replied _ over grows) = grown_length n room.history after.history grows
longer schemas n room _ after (leaves _ over grows) = grown_length n room.history after.history grows
longer schemas n room _ after (answers s request reached plan _ at is now same_) = let size = ap length same_ in omega arith
longer schemas n room _ after (tells s sent plan _ at is less now same_) = let size = ap length same_ in omega arith
longer schemas n room _ after (quiet given _ none s) = grown_length n room.history after.history s.grows

-- what a session was told up to is a clock of the history
abbrev IsBounded : Room → Option ℤ → Type 0
IsBounded room told = (to : ℤ) → told ≡ Some to → (clock : ℕ) × (to ≡ pos clock) × (clock ≤ length room.history)

module _ (schemas : Schemas) (n : ℕ) where
  kept_bounded : (room : Room) (told : Option ℤ) (after : Room) → length room.history ≤ length after.history → IsBounded room told → IsBounded after told
  kept_bounded room told after least it to is =
      let h = it to is in
      let less : h.0 ≤ length room.history = h.2 in
      (h.0, h.1, omega (arith, least, less))

  now_bounded : (room : Room) (told : Option ℤ) (after : Room) → told ≡ Some (pos (length room.history)) → length room.history ≤ length after.history → IsBounded after told
  now_bounded room told after now least to is = (length room.history, same_Some to (pos (length room.history)) (sym is ∙ now), least)

  own_bounded : (room : Room) (told : Option ℤ) (event : RoomEvent) (after : Room) → Seen schemas n room event after → session_of event ≡ n → IsBounded room told → IsBounded after (told_after told event)
  own_bounded room told event after (passes _ _ apart s) own it = absurd (apart own)
  own_bounded room told _ after (enters readonly _ none now is) own it = kept_bounded room told after (let size = ap length is in omega arith) it
  own_bounded room told _ after (asks request reached protocol versions replied plan _ was now planned is) own it = kept_bounded room told after (let size = ap length is in omega arith) it
  own_bounded room told _ after (pings replied _ s) own it = kept_bounded room told after (grown_length n room.history after.history s.grows) it
  own_bounded room told _ after (takes what replied s sent plan push _ says at is taken rest) own it =
      kept_bounded room told after (longer schemas n room (Message n what replied) after (takes what replied s sent plan push after says at is taken rest)) it
  own_bounded room told _ after (closes what replied _ over grows) own it = kept_bounded room told after (grown_length n room.history after.history grows) it
  own_bounded room told _ after (leaves _ over grows) own it = kept_bounded room told after (grown_length n room.history after.history grows) it
  own_bounded room told _ after (answers s request reached plan _ at is now same_) own it = now_bounded room (Some (pos (length room.history))) after refl (let size = ap length same_ in omega arith)
  own_bounded room told _ after (tells s sent plan _ at is less now same_) own it =
      now_bounded room _ after (updates_told schemas (member_of n s plan) sent room.history told less) (let size = ap length same_ in omega arith)
  own_bounded room told _ after (quiet given _ none s) own it = quiet_bounded given none (kept_bounded room told after (grown_length n room.history after.history s.grows) it)
    where
      quiet_bounded : (given : Option Out) → IsQuiet given → IsBounded after told → IsBounded after (told_by told given)
      quiet_bounded None none it = it
      quiet_bounded (Some (out.Message (reply.Connect hydration request protocol versions diff clock readonly))) none it = absurd none
      quiet_bounded (Some (out.Message (reply.Data events))) none it = absurd none
      quiet_bounded (Some (out.Message reply.Pong)) none it = it
      quiet_bounded (Some (out.End reason)) none it = it

  all_bounded : (room : Room) (told : Option ℤ) (events : List RoomEvent) → AllHappen schemas room events → IsBounded room told
      → IsBounded (fold (room_after schemas) room events) (fold told_after told (events_of n events))
  all_bounded room told [] all it = it
  all_bounded room told (event ∷ events) all it =
      let later = events_of n events in
      let one = seen schemas room n event all.0 all.1 in
      let end : Room → Room = λ r. fold (room_after schemas) r events in
      by_number (λ b. IsBounded (end (room_after schemas room event)) (fold told_after told (cond b (event ∷ later) later))) (session_of event) n
      (λ own. subst (λ r. IsBounded (end r) (fold told_after (told_after told event) later)) (sym all.1.1)
      (all_bounded all.0 (told_after told event) events all.2 (own_bounded room told event all.0 one own it)))
      (λ apart. subst (λ r. IsBounded (end r) (fold told_after told later)) (sym all.1.1)
      (all_bounded all.0 told events all.2 (kept_bounded room told all.0 (longer schemas n room event all.0 one) it)))

module _ (schemas : Schemas) where
  pub told_bounded : (last : ℕ) (events : List RoomEvent) (n : ℕ) (told : ℤ) → Legal schemas last events → told_up_to (events_of n events) ≡ Some told
      → (clock : ℕ) × (told ≡ pos clock) × (clock ≤ length (state_of schemas last events).history)
  unfolding Legal state_of
  told_bounded last events n told legal is = all_bounded schemas n (new_room last) None events legal (λ to is. absurd (cc)) told is

module _ (schemas : Schemas) (lawful : AreLawful schemas) (n : ℕ) (client : Follower) (admits : client.plan ≡ [] → (id : List ℕ) (d : Data) → client.admits id d ≡ schemas.admits id d) where
  abbrev pub start : Replica
  start = first_replica client

  -- what was told, how many entries are the session's and how many pushes there were, by the phase
  abbrev pub ByPhase : ℕ → Option ℤ → ℕ → Option Phase → Type 0
  ByPhase k told count None = (told ≡ None) × (count ≡ 0) × (k ≡ 0)
  ByPhase k told count (Some new) = (told ≡ None) × (count ≡ 0) × (k ≡ 0)
  ByPhase k told count (Some (asked request reached plan)) = (told ≡ None) × (count ≡ 0) × (k ≡ 0) × (reached ≡ negsuc 0) × (plan ≡ client.plan) × (request ≡ client.request)
  ByPhase k told count (Some (live sent plan)) = (told ≡ Some (pos sent)) × (plan ≡ client.plan) × (count ≡ k)
  ByPhase k told count (Some (ended reason said)) = Unit {0}
  ByPhase k told count (Some gone) = Unit {0}

  over_phase : (k : ℕ) (told : Option ℤ) (count : ℕ) (o : Option Phase) → over_at o ≡ true → ByPhase k told count o
  over_phase k told count None over = absurd (cc)
  over_phase k told count (Some new) over = absurd (cc)
  over_phase k told count (Some (asked request reached plan)) over = absurd (cc)
  over_phase k told count (Some (live sent plan)) over = absurd (cc)
  over_phase k told count (Some (ended reason said)) over = tt
  over_phase k told count (Some gone) over = tt

  -- where the client and its session are
  pub record At (room : Room) (k : ℕ) (told : Option ℤ) (replica : Replica) : Type 0 where
    pub answered : AreAnswered schemas n client.items room.history
    pub phase : ByPhase k told (count_by (is_by n) room.history) (phase_at n room)
    pub waits : told ≡ None → replica ≡ start
    pub base : (clock : ℕ) → told ≡ Some (pos clock) → (clock ≤ length room.history) × (replica ≡ told_replica schemas client n (oldest clock room.history))

  module _ (room after : Room) (k : ℕ) (told : Option ℤ) (replica : Replica) (it : At room k told replica) where
    grown_base : Grows n room.history after.history → (clock : ℕ) → told ≡ Some (pos clock) → (clock ≤ length after.history) × (replica ≡ told_replica schemas client n (oldest clock after.history))
    grown_base grows clock is =
        let h = it.base clock is in
        let most = grown_length n room.history after.history grows in
        let less : clock ≤ length room.history = h.0 in
        (omega arith, h.1 ∙ ap (told_replica schemas client n) (sym (grown_oldest n room.history after.history grows clock less)))

    -- nothing happens to the session
    still_at : Still n room after → At after k told replica
    still_at s = record {
      answered = grown_answered schemas n client.items room.history after.history s.grows it.answered;
      phase = elim s.phase [
        | inl is ↦
            subst (ByPhase k told (count_by (is_by n) after.history)) (sym is)
            (subst (λ c. ByPhase k told c (phase_at n room)) (sym (grown_count n room.history after.history s.grows)) it.phase)
        | inr over ↦ over_phase k told (count_by (is_by n) after.history) (phase_at n after) over
      ];
      waits = it.waits;
      base = grown_base s.grows;
    }

    -- it is closed
    closed_at : (j : ℕ) → over_at (phase_at n after) ≡ true → Grows n room.history after.history → At after j told replica
    closed_at j over grows = record {
      answered = grown_answered schemas n client.items room.history after.history grows it.answered;
      phase = over_phase j told (count_by (is_by n) after.history) (phase_at n after) over;
      waits = it.waits;
      base = grown_base grows;
    }

    -- it goes on, and the history stays
    goes_at : after.history ≡ room.history → ByPhase k told (count_by (is_by n) room.history) (phase_at n after) → At after k told replica
    goes_at is by = record {
      answered = subst (AreAnswered schemas n client.items) (sym is) it.answered;
      phase = subst (λ h. ByPhase k told (count_by (is_by n) h) (phase_at n after)) (sym is) by;
      waits = it.waits;
      base = λ clock told_is. subst (λ h. (clock ≤ length h) × (replica ≡ told_replica schemas client n (oldest clock h))) (sym is) (it.base clock told_is);
    }

    -- it is told all
    told_at : (plan : Plan) (now : Option ℤ) (later : Replica) → now ≡ Some (pos (length room.history)) → later ≡ told_replica schemas client n room.history → after.history ≡ room.history
        → phase_at n after ≡ Some (live (length room.history) plan) → plan ≡ client.plan → count_by (is_by n) room.history ≡ k → At after k now later
    told_at plan now later now_is later_is is phase_is plan_is count = record {
      answered = subst (AreAnswered schemas n client.items) (sym is) it.answered;
      phase = subst (ByPhase k now (count_by (is_by n) after.history)) (sym phase_is) (now_is, plan_is, ap (count_by (is_by n)) is ∙ count);
      waits = λ none. absurd (let h = now_is in cc);
      base = λ clock told_is.
          let same : length room.history ≡ clock = let e : Some (pos (length room.history)) ≡ Some (pos clock) = sym now_is ∙ told_is in cc in
          let all : room.history ≡ oldest clock after.history = sym (oldest_all room.history) ∙ ap (λ c. oldest c room.history) same ∙ ap (oldest clock) (sym is) in
          let size : length after.history ≡ length room.history = ap length is in
          (omega arith, later_is ∙ ap (told_replica schemas client n) all);
    }

  -- the item of the next push
  abbrev HasNext : ℕ → RoomEvent → Type 0
  HasNext k event = (push : Push) → pushed_by event ≡ Some push → (item : Pending) × (slice_get client.items k ≡ Some item) × IsPushOf item push

  -- a push is taken
  module _ (room : Room) (k : ℕ) (told : Option ℤ) (replica : Replica) (it : At room k told replica)
      (s : Session) (sent : ℕ) (plan : Plan) (push : Push) (at : slice_get room.sessions n ≡ Some s) (is : s.phase ≡ live sent plan)
      (taken : is_taken schemas (member_of n s plan) push ≡ true) (item : Pending) (there_ : slice_get client.items k ≡ Some item) (of_ : IsPushOf item push) where
    abbrev pushed_room : Room
    pushed_room = record room { history = entry_by schemas room n s plan push ∷ room.history }

    live_phase : phase_at n room ≡ Some (live sent plan)
    live_phase = ap (option_map (λ s. s.phase)) at ∙ ap Some is

    by_live : ByPhase k told (count_by (is_by n) room.history) (Some (live sent plan))
    by_live = subst (ByPhase k told (count_by (is_by n) room.history)) live_phase it.phase

    one_more : count_by (is_by n) (entry_by schemas room n s plan push ∷ room.history) ≡ suc k
    one_more =
        let yes : (n == n) ≡ true = (Decides-eqb n n).1 refl in
        let one : count_by (is_by n) (entry_by schemas room n s plan push ∷ room.history) ≡ cond {A = ℕ} (n == n) 1 0 + count_by (is_by n) room.history
        = sum_by-cons (λ e. cond (is_by n e) 1 0) (entry_by schemas room n s plan push) room.history in
        let value : cond {A = ℕ} (n == n) 1 0 ≡ 1 = ap (λ (b : Bool). cond {A = ℕ} b 1 0) yes in
        let count : count_by (is_by n) room.history ≡ k = by_live.2 in
        omega (arith, one, value, count)

    answers_item : (author : Author) → (entry_by schemas room n s plan push).author ≡ Some author → author.session ≡ n
        → IsAnswered schemas client.items (count_by (is_by n) room.history) (entry_by schemas room n s plan push).diff author
    answers_item author author_is own = record {
      item = item;
      there = ap (slice_get client.items) by_live.2 ∙ there_;
      number = of_.0 ∙ ap (λ (a : Author). Some a.client_clock) (same_Some _ author author_is);
      commit = λ commit. commit_pushed schemas lawful (member_of n s plan) (records_of room.history) push author taken author_is commit ∙ of_.1;
    }

    pushed_at : At pushed_room (suc k) told replica
    pushed_at = record {
      answered = (answers_item, it.answered);
      phase = subst (ByPhase (suc k) told (count_by (is_by n) (entry_by schemas room n s plan push ∷ room.history))) (sym live_phase) (by_live.0, by_live.1, one_more);
      waits = it.waits;
      base = λ clock told_is.
          let h = it.base clock told_is in
          let less : clock ≤ length room.history = h.0 in
          (omega (arith, less), h.1 ∙ ap (told_replica schemas client n) (sym (oldest_more clock (entry_by schemas room n s plan push) room.history less)));
    }

  -- a snapshot makes the replica of one that was told all
  snapshot_made : (room : Room) (s : Session) (request : List ℕ) (reached : ℤ) (plan : Plan) (replica : Replica) → reached ≡ negsuc 0 → plan ≡ client.plan → replica ≡ start
      → count_by (is_by n) room.history ≡ 0
      → replica_given schemas client.admits replica (Some (out.Message (snapshot schemas (member_of n s plan) request reached room.first room.history))) ≡ told_replica schemas client n room.history
  snapshot_made room s request reached plan replica reached_is plan_is replica_is_start none =
      let given : Plan → ℤ → Replica = λ p r. replica_given schemas client.admits replica (Some (out.Message (snapshot schemas (member_of n s p) request r room.first room.history))) in
      let whole : (given client.plan (negsuc 0)).base ≡ (told_replica schemas client n room.history).base = wiped_all schemas client.admits (member_of n s client.plan) room.history replica.base in
      let left : replica.pending ≡ drop (count_by (is_by n) room.history) client.items = ap (λ r. r.pending) replica_is_start ∙ ap (λ c. drop c client.items) (sym none) in
      ap (λ p. given p reached) plan_is ∙ ap (given client.plan) reached_is ∙ replica_is (given client.plan (negsuc 0)) (told_replica schemas client n room.history) whole left

  -- and so do updates
  updates_made : (room : Room) (s : Session) (sent : ℕ) (plan : Plan) (replica : Replica) → Reachable schemas room → AreAnswered schemas n client.items room.history → plan ≡ client.plan
      → slice_get room.sessions n ≡ Some s → s.phase ≡ live sent plan → sent ≤ length room.history → replica ≡ told_replica schemas client n (oldest sent room.history)
      → replica_given schemas client.admits replica (Some (out.Message (updates schemas (member_of n s plan) sent room.history))) ≡ told_replica schemas client n room.history
  updates_made room s sent plan replica reach answered plan_is at is less replica_is_told =
      let h = room.history in
      let member = member_of n s client.plan in
      let told = count_by (is_by n) (oldest sent h) in
      let items = drop told client.items in
      let given : Plan → Replica → Replica = λ p r. replica_given schemas client.admits r (Some (out.Message (updates schemas (member_of n s p) sent h))) in
      let later = left_answered schemas n client.items sent h answered in
      let brought = updated schemas lawful member client.admits admits sent h items _ (reachable_acts schemas room lawful reach)
      (reachable_commits schemas lawful room reach n s sent client.plan at (is ∙ ap (live sent) plan_is)) later refl in
      let count : count_by (is_by n) h ≡ told + count_by (is_by n) (above sent h) =
      ap (count_by (is_by n)) (sym (parts sent h)) ∙ sum_by-append (λ e. cond (is_by n e) 1 0) (above sent h) (oldest sent h) ∙ omega arith in
      ap (λ p. given p replica) plan_is ∙ ap (given client.plan) replica_is_told ∙ brought
      ∙ replica_is _ (told_replica schemas client n h) refl (drop_twice client.items told (count_by (is_by n) (above sent h)) (count_by (is_by n) h) count)

  -- how many pushes there were after an event
  abbrev next_count : ℕ → Option Push → ℕ
  next_count k None = k
  next_count k (Some push) = suc k

  own_step : (room : Room) (event : RoomEvent) (after : Room) (k : ℕ) (told : Option ℤ) (replica : Replica) → Reachable schemas room → Seen schemas n room event after → session_of event ≡ n
      → At room k told replica → Asks schemas client event → HasNext k event
      → At after (next_count k (pushed_by event)) (told_after told event) (replica_after schemas client.admits replica event)
  own_step room _ _ k told replica reach (passes event after apart s) own it said next = absurd (apart own)
  own_step room _ _ k told replica reach (enters readonly after none now is) own it said next =
      goes_at room after k told replica it is
      (subst (ByPhase k told (count_by (is_by n) room.history)) (sym now) (subst (ByPhase k told (count_by (is_by n) room.history)) none it.phase))
  own_step room _ _ k told replica reach (asks request reached protocol versions replied plan after was now planned is) own it said next =
      let by : ByPhase k told (count_by (is_by n) room.history) (Some new) = subst (ByPhase k told (count_by (is_by n) room.history)) was it.phase in
      let plan_is : plan ≡ client.plan = said.1 plan planned in
      goes_at room after k told replica it is (subst (ByPhase k told (count_by (is_by n) room.history)) (sym now) (by.0, by.1, by.2, said.0, plan_is, said.2))
  own_step room _ _ k told replica reach (pings replied after s) own it said next = still_at room after k told replica it s
  own_step room _ _ k told replica reach (takes what replied s sent plan push after says at is taken rest) own it said next =
      let item = next push says in
      let now = pushed_at room k told replica it s sent plan push at is taken item.0 item.1 item.2 in
      subst (λ o. At after (next_count k o) told replica) (sym says)
      (still_at (pushed_room room k told replica it s sent plan push at is taken item.0 item.1 item.2) after (suc k) told replica now rest)
  own_step room _ _ k told replica reach (closes what replied after over grows) own it said next = closed_at room after k told replica it (next_count k (push_of what)) over grows
  own_step room _ _ k told replica reach (leaves after over grows) own it said next = closed_at room after k told replica it k over grows
  own_step room _ _ k told replica reach (answers s request reached plan after at is now same_) own it said next =
      let by : ByPhase k told (count_by (is_by n) room.history) (Some (asked request reached plan)) =
      subst (ByPhase k told (count_by (is_by n) room.history)) (ap (option_map (λ s. s.phase)) at ∙ ap Some is) it.phase in
      told_at room after k told replica it plan _ _ refl (snapshot_made room s request reached plan replica by.3 by.4 (it.waits by.0) by.1) same_ now by.4 (by.1 ∙ sym by.2)
  own_step room _ _ k told replica reach (tells s sent plan after at is less now same_) own it said next =
      let by : ByPhase k told (count_by (is_by n) room.history) (Some (live sent plan)) =
      subst (ByPhase k told (count_by (is_by n) room.history)) (ap (option_map (λ s. s.phase)) at ∙ ap Some is) it.phase in
      let h = it.base sent by.0 in
      told_at room after k told replica it plan _ _ (updates_told schemas (member_of n s plan) sent room.history told less)
      (updates_made room s sent plan replica reach it.answered by.1 at is h.0 h.1) same_ now by.1 by.2
  own_step room _ _ k told replica reach (quiet given after none s) own it said next =
      quiet_at given none (still_at room after k told replica it s)
    where
      quiet_at : (given : Option Out) → IsQuiet given → At after k told replica → At after k (told_by told given) (replica_given schemas client.admits replica given)
      quiet_at None none it = it
      quiet_at (Some (out.Message (reply.Connect hydration request protocol versions diff clock readonly))) none it = absurd none
      quiet_at (Some (out.Message (reply.Data events))) none it = absurd none
      quiet_at (Some (out.Message reply.Pong)) none it = it
      quiet_at (Some (out.End reason)) none it = it

  other_step : (room : Room) (event : RoomEvent) (after : Room) (k : ℕ) (told : Option ℤ) (replica : Replica) → Seen schemas n room event after → (session_of event ≡ n → ⊥)
      → At room k told replica → At after k told replica
  other_step room _ _ k told replica (passes event after apart s) other it = still_at room after k told replica it s
  other_step room _ _ k told replica (enters readonly after none now is) other it = absurd (other refl)
  other_step room _ _ k told replica (asks request reached protocol versions replied plan after was now planned is) other it = absurd (other refl)
  other_step room _ _ k told replica (pings replied after s) other it = absurd (other refl)
  other_step room _ _ k told replica (takes what replied s sent plan push after says at is taken rest) other it = absurd (other refl)
  other_step room _ _ k told replica (closes what replied after over grows) other it = absurd (other refl)
  other_step room _ _ k told replica (leaves after over grows) other it = absurd (other refl)
  other_step room _ _ k told replica (answers s request reached plan after at is now same_) other it = absurd (other refl)
  other_step room _ _ k told replica (tells s sent plan after at is less now same_) other it = absurd (other refl)
  other_step room _ _ k told replica (quiet given after none s) other it = absurd (other refl)

  first_item : (items : List Pending) (k : ℕ) (push : Push) (pushes : List Push) → ArePushed (drop k items) (push ∷ pushes)
      → (item : Pending) × (slice_get items k ≡ Some item) × IsPushOf item push × ArePushed (drop (suc k) items) pushes
  first_item [] zero push pushes h = absurd h
  first_item [] (suc k) push pushes h = absurd h
  first_item (item ∷ items) zero push pushes h = (item, refl, h.0, h.1)
  first_item (item ∷ items) (suc k) push pushes h = first_item items k push pushes h

  -- the pushes of an event and of those after it
  next_pushes : (k : ℕ) (o : Option Push) (pushes : List Push) → ArePushed (drop k client.items) (cons_option o pushes)
      → ((push : Push) → o ≡ Some push → (item : Pending) × (slice_get client.items k ≡ Some item) × IsPushOf item push) × ArePushed (drop (next_count k o) client.items) pushes
  next_pushes k None pushes h = (λ push is. absurd (cc), h)
  next_pushes k (Some push) pushes h =
      let first = first_item client.items k push pushes h in
      (λ other is. (first.0, first.1, subst (IsPushOf first.0) (same_Some push other is) first.2), first.3)

  follow : (room : Room) (events : List RoomEvent) (k : ℕ) (told : Option ℤ) (replica : Replica) → Reachable schemas room → AllHappen schemas room events
      → AllAsk schemas client (events_of n events) → ArePushed (drop k client.items) (pushes_of (events_of n events)) → At room k told replica
      → (j : ℕ) × At (fold (room_after schemas) room events) j (fold told_after told (events_of n events)) (fold (replica_after schemas client.admits) replica (events_of n events))
  follow room [] k told replica reach all says pushes it = (k, it)
  follow room (event ∷ events) k told replica reach all says pushes it =
      let later = events_of n events in
      let one = seen schemas room n event all.0 all.1 in
      let next = reached schemas room event all.0 reach all.1 in
      let end : Room → Room = λ r. fold (room_after schemas) r events in
      by_number (λ b. AllAsk schemas client (cond b (event ∷ later) later) → ArePushed (drop k client.items) (pushes_of (cond b (event ∷ later) later))
      → (j : ℕ) × At (end (room_after schemas room event)) j (fold told_after told (cond b (event ∷ later) later)) (fold (replica_after schemas client.admits) replica (cond b (event ∷ later) later))) (session_of event) n
      (λ own says pushes.
      let split = next_pushes k (pushed_by event) (pushes_of later) pushes in
      let step = own_step room event all.0 k told replica reach one own it says.0 split.0 in
      let rest = follow all.0 events (next_count k (pushed_by event)) (told_after told event) (replica_after schemas client.admits replica event) next all.2 says.1 split.1 step in
      (rest.0, subst (λ r. At (end r) rest.0 (fold told_after (told_after told event) later) (fold (replica_after schemas client.admits) (replica_after schemas client.admits replica event) later)) (sym all.1.1) rest.1))
      (λ apart says pushes.
      let rest = follow all.0 events k told replica next all.2 says pushes (other_step room event all.0 k told replica one apart it) in
      (rest.0, subst (λ r. At (end r) rest.0 (fold told_after told later) (fold (replica_after schemas client.admits) replica later)) (sym all.1.1) rest.1))
      says pushes

module _ (schemas : Schemas) (lawful : AreLawful schemas) (last : ℕ) (n : ℕ) (client : Follower) where
  -- where a client is after a legal list
  pub where_it_is : (events : List RoomEvent) (legal : Legal schemas last events) (is : Follows schemas client (events_of n events))
      → (j : ℕ) × At schemas lawful n client is.admits (state_of schemas last events) j (told_up_to (events_of n events)) (replica_of schemas client (events_of n events))
  unfolding Legal state_of
  where_it_is events legal is =
      let first : At schemas lawful n client is.admits (new_room last) 0 None (start schemas lawful n client is.admits) =
      record { answered = tt; phase = (refl, refl, refl); waits = λ none. refl; base = λ clock is. absurd (cc) } in
      follow schemas lawful n client is.admits (new_room last) events 0 None (start schemas lawful n client is.admits) (begins (new_room last) (anew last)) legal is.asks is.pushes first

  pub client_follows : (events : List RoomEvent) (clock : ℕ) → Legal schemas last events → Follows schemas client (events_of n events) → told_up_to (events_of n events) ≡ Some (pos clock)
      → replica_of schemas client (events_of n events) ≡ told_replica schemas client n (oldest clock (state_of schemas last events).history)
  client_follows events clock legal is told = ((where_it_is events legal is).1.base clock told).1

  pub client_waits : (events : List RoomEvent) → Legal schemas last events → Follows schemas client (events_of n events) → told_up_to (events_of n events) ≡ None
      → replica_of schemas client (events_of n events) ≡ first_replica client
  client_waits events legal is told = (where_it_is events legal is).1.waits told
