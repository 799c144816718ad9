-- Which presences a call changes.
use Rattle.std.proofs.Common.{◌≡◌, ◌⊎◌, inl, inr, ℕ, zero, suc, ◌<◌, ◌≤◌, ◌^◌, nat_le, Bool, true, false, ◌&&◌, ◌||◌, cond, not, List, [], ◌∷◌, ◌++◌, length, slice_get, slice_set, Option, Some, None, is_some, refl, sym, ap, subst, ◌∙◌, arith}
use Rattle.std.specs.Prelude.{drop, decimal, codes}
use Rattle.std.specs.List.{list_all}
use Rattle.std.specs.Option.{option_map_or}
use Rattle.std.specs.Str.Parse.{digits_value}
use Rattle.std.proofs.lemmas.Fmt.{decimal_is_IsNumeral}
use Rattle.std.proofs.lemmas.Bool.Decides.{nat_tests}
use Rattle.std.proofs.lemmas.Option.{slice_get_within}
use Rattle.std.proofs.lemmas.Slice.Eq.{bytes_eq-Decides}
use Rattle.std.proofs.Math.Seq.{drop-append_seam}
use Rattle.rooms_val.proofs.Truths.{or_false_right, and_left, and_right}
use Rattle.rooms_val.specs.Data.{Pairs}
use Rattle.rooms_val.specs.Maps.{value_at, ties}
use Rattle.rooms_val.proofs.MapsLemmas.{at-set_at, ties_same}
use Rattle.field_ops.specs.RecordOps.{RecordOps}
use Rattle.field_ops.specs.Patched.{raw}
use Rattle.doc_model.specs.Documents.{fold_raw}
use Rattle.room_model.specs.Schemas.{Schemas, AreLawful, presence_id, is_own}
use Rattle.room_model.specs.Histories.{History, records_of}
use Rattle.room_model.specs.Closing.{with_removals, was_open, is_closed, IsClosing, IsPushed, Appends}
use Rattle.room_model.specs.Naming.{IsNamedBy, AllNamed}
use Rattle.room_model.specs.Reachable.{is_over, IsBeginning, Reachable, begins, entered, received, drained, left}
use Rattle.room_model.specs.Rooms.{Phase, new, asked, live, ended, Session, Room, is_full, after_enter, enter, with_session, is_present, removal, after_drain, Replied, after_message, after_leave, Given, next_for}
use Rattle.room_model.specs.declared.handled.Handled.{Handled}
use Rattle.room_model.specs.declared.handled.Handled.TheVariants.{Taken, Entered, Pong, Ended}
use Rattle.room_model.specs.declared.history.Entry.{Entry}
use Rattle.room_model.specs.declared.limits.TheConstants.{MOST_ENTERED}
use Rattle.room_model.proofs.BegunLemmas.{nobody_there, nobody_present}
use Rattle.room_model.proofs.ActingLemmas.{differ, presence_apart, all-imp}
use Rattle.room_model.proofs.ClosingLemmas.{set_at_place, set_elsewhere, by_number, message_appends, leave_closes}
use Rattle.room_model.proofs.EntryLemmas.{reachable_names}
use Rattle.sync_msgs.specs.declared.client_message.ClientMessage.{ClientMessage}
use Rattle.world_laws.specs.Sessions.{IsLive, ArePresencesLive}
use Rattle.world_laws.specs.Presences.{AllRemovals, GoesOnByRemovals, HasSamePresence}
use Rattle.world_laws.proofs.RoomLemmas.{message_receives, Gives, tells_end, answers, pongs, tells, drain_gives}
use Rattle.world_laws.proofs.PushLemmas.{long-set, long-added}
use Rattle.world_laws.proofs.SessionLemmas.{message_long, leave_long}
use Rattle.world_laws.proofs.TurnLemmas.{IsLast, untold, left as is_gone, leave_turns, message_turns}

-- the ids of the presences of two sessions differ

same_decimal : (n k : ℕ) → n < 2 ^ 64 → k < 2 ^ 64 → decimal n ≡ decimal k → n ≡ k
same_decimal n k small less same = sym (decimal_is_IsNumeral n small).1 ∙ ap (digits_value 10) same ∙ (decimal_is_IsNumeral k less).1

same_presence : (n k : ℕ) → n < 2 ^ 64 → k < 2 ^ 64 → presence_id n ≡ presence_id k → n ≡ k
same_presence n k small less same =
    same_decimal n k small less
    (sym (drop-append_seam (codes "instance_presence:") (decimal n)) ∙ ap (drop (length (codes "instance_presence:"))) same ∙ drop-append_seam (codes "instance_presence:") (decimal k))

-- a room has few sessions
entered_is : (readonly : Bool) (room after : Room) → enter readonly room ≡ Some after → (is_full room ≡ false) × (after_enter readonly room ≡ after)
entered_is readonly room after is =
    let next = after_enter readonly room in
    elim (is_full room) as (λ b. cond b None (Some next) ≡ Some after → (b ≡ false) × (next ≡ after)) [
      | true ↦ λ same. absurd (cc)
      | false ↦ λ same. let it : next ≡ after = cc in (refl, it)
    ] is

below : (k : ℕ) → nat_le MOST_ENTERED k ≡ false → suc k ≤ MOST_ENTERED
below k is = grind (arith, nat_tests)

entered_few : (readonly : Bool) (room after : Room) → enter readonly room ≡ Some after → length after.sessions ≤ MOST_ENTERED
entered_few readonly room after is =
    let on = entered_is readonly room after is in
    let few = below (length room.sessions) (or_false_right _ _ on.0) in
    subst (λ (r : Room). length r.sessions ≤ MOST_ENTERED) on.1 (subst (λ k. k ≤ MOST_ENTERED) (sym (long-added room.sessions _)) few)

few_entered : (schemas : Schemas) (room : Room) → Reachable schemas room → length room.sessions ≤ MOST_ENTERED
few_entered schemas room (begins _ beginning) = let none = ap length (nobody_there schemas room beginning) in omega arith
few_entered schemas _ (entered readonly room after before is) = entered_few readonly room after is
few_entered schemas _ (received session said room replied before rising is) = let h = few_entered schemas room before in let e = message_long schemas room session said replied is in omega arith
few_entered schemas _ (drained session given room before is) = let h = few_entered schemas room before in let e = long-set room.sessions session given.after in omega arith
few_entered schemas _ (left session room after before is) = let h = few_entered schemas room before in let e = leave_long room after session is in omega arith

-- who is closed stays so

abbrev over_at : Option Session → Bool
over_at o = option_map_or (λ s. is_over s.phase) o false

pub closed_set : (k : ℕ) (room : Room) (n : ℕ) (s t : Session) → slice_get room.sessions n ≡ Some s → (is_over s.phase ≡ true → is_over t.phase ≡ true)
    → is_closed room k ≡ true → is_closed (with_session n t room) k ≡ true
closed_set k room n s t at goes h =
    by_number (λ b. is_closed (with_session n t room) k ≡ true) k n
    (λ same.
    let over : is_over s.phase ≡ true = sym (ap over_at (ap (slice_get room.sessions) same ∙ at)) ∙ h in
    ap over_at (ap (slice_get (slice_set room.sessions n t)) same ∙ set_at_place room.sessions n s t at) ∙ goes over)
    (λ apart. ap over_at (set_elsewhere room.sessions n k t apart) ∙ h)

pub closed_added : (xs : List Session) (y : Session) (k : ℕ) → over_at (slice_get xs k) ≡ true → over_at (slice_get (xs ++ y ∷ []) k) ≡ true
closed_added [] y k h = absurd (cc)
closed_added (x ∷ xs) y zero h = h
closed_added (x ∷ xs) y (suc k) h = closed_added xs y k h

pub last_over : (p : Phase) → IsLast p → is_over p ≡ true
last_over _ (untold reason) = refl
last_over _ is_gone = refl

pub message_closed : (schemas : Schemas) (k : ℕ) (room : Room) (n : ℕ) (said : ClientMessage) (replied : Replied) → after_message schemas room n said ≡ Some replied
    → is_closed room k ≡ true → is_closed replied.room k ≡ true
message_closed schemas k room n said replied is h =
    message_turns (λ r. is_closed r k ≡ true) n (λ r j s phase at who here over g. closed_set k r j s _ at (λ o. last_over phase over) g) (λ r j is g. g) schemas room n refl said
    (λ s request reached protocol versions plan at says is planned g. closed_set k room n s _ at (λ o. absurd (differ (sym o ∙ ap is_over is))) g)
    (λ s count at says g. closed_set k room n s _ at (λ o. o) g)
    (λ s sent plan push at says is taken g. g) replied is h

pub leave_closed : (k : ℕ) (room after : Room) (n : ℕ) → after_leave room n ≡ Some after → is_closed room k ≡ true → is_closed after k ≡ true
leave_closed k room after n is h =
    leave_turns (λ r. is_closed r k ≡ true) n (λ r j s phase at who here over g. closed_set k r j s _ at (λ o. last_over phase over) g) (λ r j is g. g) room after n refl is
    (λ s at over g. closed_set k room n s _ at (λ o. refl) g) h

given_over : (room : Room) (n : ℕ) (s : Session) (notice : _) (after : Session) → Gives room n s notice after → is_over s.phase ≡ true → is_over after.phase ≡ true
given_over room n s _ _ (tells_end reason is) o = refl
given_over room n s _ _ (answers request reached plan is) o = absurd (differ (sym o ∙ ap is_over is))
given_over room n s _ _ (pongs some) o = o
given_over room n s _ _ (tells sent plan is less) o = absurd (differ (sym o ∙ ap is_over is))

pub drain_closed : (schemas : Schemas) (k : ℕ) (room : Room) (n : ℕ) (given : Given) → next_for schemas room n ≡ Some given
    → is_closed room k ≡ true → is_closed (after_drain room n given) k ≡ true
drain_closed schemas k room n given is h =
    let on = drain_gives schemas room n given is in
    closed_set k room n on.0 given.after on.1.at (given_over room n on.0 given.notice given.after on.2) h

-- who is open isn't closed
pub not_open : (k : ℕ) (r : Room) → was_open r k ≡ true → is_closed r k ≡ true → ⊥
not_open k r is over = elim (slice_get r.sessions k) as (λ o. option_map_or (λ (s : Session). not (is_over s.phase)) o false ≡ true → over_at o ≡ true → ⊥) [
  | None ↦ λ a b. differ (sym b)
  | Some s ↦ λ a b. differ (sym a ∙ ap not b)
] is over

-- entries without author

-- a history goes on from a first one by entries that remove what is closed
abbrev Upon : History → Room → History → Type 0
Upon first room history = (later : History) × (history ≡ later ++ first) × AllRemovals room later

module _ (first : History) where
  all_later : (before after : Room) → ((k : ℕ) → is_closed before k ≡ true → is_closed after k ≡ true) → (later : History) → AllRemovals before later → AllRemovals after later
  all_later before after more [] h = tt
  all_later before after more (entry ∷ later) h = (λ none. (let r = h.0 none in (r.0, r.1, more r.0 r.2)), all_later before after more later h.1)

  removals_later : (before after : Room) → ((k : ℕ) → is_closed before k ≡ true → is_closed after k ≡ true) → (history : History) → Upon first before history → Upon first after history
  removals_later before after more history h = (h.0, h.1, all_later before after more h.0 h.2)

  removals_added : (before after : Room) (ks : List ℕ) (history : History) → list_all (λ k. was_open before k && is_closed after k) ks ≡ true → Upon first after history → Upon first after (with_removals ks history)
  removals_added before after [] history all h = h
  removals_added before after (k ∷ ks) history all h =
      removals_added before after ks (removal k ∷ history) (and_right _ _ all)
      (removal k ∷ h.0, ap (λ l. removal k ∷ l) h.1, (λ none. (k, refl, and_right _ _ (and_left _ _ all)), h.2))

  closing_removals : (before after : Room) (ks : List ℕ) → IsClosing before after ks → Upon first after before.history → Upon first after after.history
  closing_removals before after ks closing h = subst (Upon first after) (sym closing.appended) (removals_added before after ks before.history closing.ends h)

  appended_removals : (schemas : Schemas) (room : Room) (n : ℕ) (said : ClientMessage) (reply : Handled) (after : Room) (ks : List ℕ)
      → Appends schemas room n said reply after ks → Upon first after room.history → Upon first after after.history
  appended_removals schemas room n said Taken after ks h all =
      let entry = h.0 in
      closing_removals _ after ks h.2 (entry ∷ all.0, ap (λ l. entry ∷ l) all.1, ((λ none. absurd (let some = ap (λ (e : Entry). e.author) h.1.makes in cc)), all.2))
  appended_removals schemas room n said Entered after ks h all = closing_removals room after ks h all
  appended_removals schemas room n said Pong after ks h all = closing_removals room after ks h all
  appended_removals schemas room n said (Ended reason) after ks h all = closing_removals room after ks h all

-- the room with which calls began, and how its history goes on
abbrev Removals : Schemas → Room → Type 0
Removals schemas room = (first : Room) × IsBeginning schemas first × Upon first.history room room.history

removals_of : (schemas : Schemas) (room : Room) → Reachable schemas room → Removals schemas room
removals_of schemas _ (begins room beginning) = (room, beginning, ([], refl, tt))
removals_of schemas _ (entered readonly room after before is) =
    let h = removals_of schemas room before in
    let next = after_enter readonly room in (
      h.0,
      h.1,
      subst (λ (r : Room). Upon h.0.history r r.history) (entered_is readonly room after is).1
          (removals_later h.0.history room next (λ k h. closed_added room.sessions _ k h) room.history h.2),
    )
removals_of schemas _ (received session said room replied before rising is) =
    let h = removals_of schemas room before in
    let on = message_appends schemas room session said replied is in (
      h.0,
      h.1,
      appended_removals h.0.history schemas room session said replied.reply replied.room on.0 on.1
          (removals_later h.0.history room replied.room (λ k h. message_closed schemas k room session said replied is h) room.history h.2),
    )
removals_of schemas _ (drained session given room before is) =
    let h = removals_of schemas room before in
    (h.0, h.1, removals_later h.0.history room (after_drain room session given) (λ k h. drain_closed schemas k room session given is h) room.history h.2)
removals_of schemas _ (left session room after before is) =
    let h = removals_of schemas room before in
    let on = leave_closes schemas room session after is in
    (h.0, h.1, closing_removals h.0.history room after on.0 on.1 (removals_later h.0.history room after (λ k h. leave_closed k room after session is h) room.history h.2))

pub reachable_removals : (schemas : Schemas) (room : Room) → Reachable schemas room → GoesOnByRemovals schemas room
reachable_removals schemas room reached =
    let h = removals_of schemas room reached in
    record { first = h.0; beginning = h.1; later = h.2.0; appended = h.2.1; removals = h.2.2 }

-- who was live is live or closed

abbrev LiveOrOver : ℕ → Room → Type 0
LiveOrOver k r = (s : Session) × (slice_get r.sessions k ≡ Some s) × (IsLive s.phase ⊎ (is_over s.phase ≡ true))

live_set : (k : ℕ) (r : Room) (j : ℕ) (s t : Session) → slice_get r.sessions j ≡ Some s
    → (IsLive s.phase ⊎ (is_over s.phase ≡ true) → IsLive t.phase ⊎ (is_over t.phase ≡ true)) → LiveOrOver k r → LiveOrOver k (with_session j t r)
live_set k r j s t at on h = by_number (λ b. LiveOrOver k (with_session j t r)) k j
    (λ same.
    let some : Some h.0 ≡ Some s = sym h.1 ∙ ap (slice_get r.sessions) same ∙ at in
    let it : h.0 ≡ s = cc in
    (t, ap (slice_get (slice_set r.sessions j t)) same ∙ set_at_place r.sessions j s t at, on (subst (λ (x : Session). IsLive x.phase ⊎ (is_over x.phase ≡ true)) it h.2)))
    (λ apart. (h.0, set_elsewhere r.sessions j k t apart ∙ h.1, h.2))

fresh_neither : (p : Phase) → p ≡ new → IsLive p ⊎ (is_over p ≡ true) → ⊥
fresh_neither p is (inl lives) = let e : live lives.sent lives.plan ≡ new = sym lives.is ∙ is in absurd (cc)
fresh_neither p is (inr over) = absurd (differ (sym over ∙ ap is_over is))

message_lives : (schemas : Schemas) (k : ℕ) (room : Room) (n : ℕ) (said : ClientMessage) (replied : Replied) → after_message schemas room n said ≡ Some replied
    → LiveOrOver k room → LiveOrOver k replied.room
message_lives schemas k room n said replied is h =
    message_turns (LiveOrOver k) n (λ r j s phase at who here over g. live_set k r j s _ at (λ o. inr (last_over phase over)) g) (λ r j is g. g) schemas room n refl said
    (λ s request reached protocol versions plan at says is planned g. live_set k room n s _ at (λ o. absurd (fresh_neither s.phase is o)) g)
    (λ s count at says g. live_set k room n s _ at (λ o. o) g)
    (λ s sent plan push at says is taken g. g) replied is h

leave_lives : (k : ℕ) (room after : Room) (n : ℕ) → after_leave room n ≡ Some after → LiveOrOver k room → LiveOrOver k after
leave_lives k room after n is h =
    leave_turns (LiveOrOver k) n (λ r j s phase at who here over g. live_set k r j s _ at (λ o. inr (last_over phase over)) g) (λ r j is g. g) room after n refl is
    (λ s at over g. live_set k room n s _ at (λ o. inr refl) g) h

-- a session is there and live
abbrev LiveAt : ℕ → Room → Type 0
LiveAt k r = (s : Session) × (slice_get r.sessions k ≡ Some s) × IsLive s.phase

live_open : (k : ℕ) (r : Room) → LiveAt k r → was_open r k ≡ true
live_open k r h =
    ap (λ o. option_map_or (λ (s : Session). not (is_over s.phase)) o false) h.1 ∙ ap (λ p. not (is_over p)) h.2.is

still_live : (k : ℕ) (r : Room) → LiveOrOver k r → (is_closed r k ≡ true → ⊥) → LiveAt k r
still_live k r h not_closed = (
  h.0,
  h.1,
  elim h.2 as (λ o. IsLive h.0.phase) [
    | inl lives ↦ lives
    | inr over ↦ absurd (not_closed (ap over_at h.1 ∙ over))
  ],
)

-- a presence that is there after some were removed was there before
present_before : (k : ℕ) (ks : List ℕ) (history : History) → is_some (value_at (records_of (with_removals ks history)) (presence_id k)) ≡ true
    → is_some (value_at (records_of history) (presence_id k)) ≡ true
present_before k [] history is = is
present_before k (j ∷ ks) history is =
    let m = records_of history in
    let h = sym (ap is_some (at-set_at m (presence_id j) (presence_id k) None)) ∙ present_before k ks (removal j ∷ history) is in
    elim (ties (presence_id k) (presence_id j)) as (λ b. is_some (cond b None (value_at m (presence_id k))) ≡ true → is_some (value_at m (presence_id k)) ≡ true) [
      | true ↦ λ none. absurd (differ (sym none))
      | false ↦ λ some. some
    ] h

closing_lives : (k : ℕ) (before after : Room) (ks : List ℕ) → IsClosing before after ks → LiveAt k before → LiveOrOver k after → is_present k after ≡ true → LiveAt k after
closing_lives k before after ks closing lives on present =
    still_live k after on (λ closed. differ (sym present ∙ closing.gone k (live_open k before lives) closed))

-- what an entry does to the presence of another session than its author

untouched : (id : List ℕ) (diff : RecordOps) (m : Pairs) → list_all (λ c. not (ties id c.0)) diff ≡ true → value_at (fold_raw m diff) id ≡ value_at m id
untouched id [] m all = refl
untouched id (c ∷ diff) m all =
    untouched id diff _ (and_right _ _ all) ∙ at-set_at m c.0 id (raw c.1 (value_at m c.0))
    ∙ elim (ties id c.0) as (λ b. not b ≡ true → cond b (raw c.1 (value_at m c.0)) (value_at m id) ≡ value_at m id) [ true ↦ λ no. absurd (differ (sym no)) | false ↦ λ no. refl ] (and_left _ _ all)

-- numbers of sessions that differ have presences with ids that differ
apart_ids : (n k : ℕ) → n < 2 ^ 64 → k < 2 ^ 64 → (k ≡ n → ⊥) → ties (presence_id k) (presence_id n) ≡ false
apart_ids n k small less apart = elim (ties (presence_id k) (presence_id n)) as (λ b. ties (presence_id k) (presence_id n) ≡ b → b ≡ false) [
  | true ↦ λ is. absurd (apart (same_presence k n less small (ties_same (presence_id k) (presence_id n) is)))
  | false ↦ λ is. refl
] refl

module _ (schemas : Schemas) (lawful : AreLawful schemas) where
  not_named : (n k : ℕ) (id : List ℕ) → n < 2 ^ 64 → k < 2 ^ 64 → (k ≡ n → ⊥) → (schemas.is_document id || is_own n id) ≡ true → not (ties (presence_id k) id) ≡ true
  not_named n k id small less apart named = elim (ties (presence_id k) id) as (λ b. ties (presence_id k) id ≡ b → not b ≡ true) [
    | true ↦ λ is.
        let same : presence_id k ≡ id = ties_same (presence_id k) id is in
        let here : (schemas.is_document (presence_id k) || is_own n (presence_id k)) ≡ true = subst (λ i. (schemas.is_document i || is_own n i) ≡ true) (sym same) named in
        let own : is_own n (presence_id k) ≡ true = sym (ap (λ b. b || is_own n (presence_id k)) (presence_apart schemas lawful k)) ∙ here in
        absurd (apart (same_presence k n less small ((bytes_eq-Decides (presence_id k) (presence_id n)).0 own)))
    | false ↦ λ is. refl
  ] refl

  -- the entry of a push of another session
  entry_untouched : (history : History) (entry : Entry) (sessions : List Session) (n k : ℕ) → n < 2 ^ 64 → k < 2 ^ 64 → (k ≡ n → ⊥) → IsNamedBy schemas sessions n entry.diff
      → value_at (records_of (entry ∷ history)) (presence_id k) ≡ value_at (records_of history) (presence_id k)
  entry_untouched history entry sessions n k small less apart named =
      untouched (presence_id k) entry.diff (records_of history)
      (all-imp (λ c. schemas.is_document c.0 || is_own n c.0) (λ c. not (ties (presence_id k) c.0)) (λ c is. not_named n k c.0 small less apart is) entry.diff named.names)

  named_below : (sessions : List Session) (ks : List ℕ) (history : History) → AllNamed schemas sessions (with_removals ks history) → AllNamed schemas sessions history
  named_below sessions [] history h = h
  named_below sessions (k ∷ ks) history h = (named_below sessions ks (removal k ∷ history) h).1

  pushed_named : (room : Room) (n : ℕ) (said : ClientMessage) (entry : Entry) (after : Room) (ks : List ℕ) → Reachable schemas after → IsPushed schemas room n said entry
      → IsClosing (record room { history = entry ∷ room.history }) after ks → IsNamedBy schemas after.sessions n entry.diff
  pushed_named room n said entry after ks reached pushed closing =
      let all : AllNamed schemas after.sessions (entry ∷ room.history) =
      named_below after.sessions ks (entry ∷ room.history) (subst (AllNamed schemas after.sessions) closing.appended (reachable_names schemas lawful after reached)) in
      let by = ap (λ (e : Entry). e.author) pushed.makes in
      all.0 _ by

  -- each presence is that of a live session

  abbrev OnlyLive : Room → Type 0
  OnlyLive r = (k : ℕ) → k < 2 ^ 64 → is_present k r ≡ true → LiveAt k r

  lives_later : (k : ℕ) (r : Room) → LiveAt k r → LiveOrOver k r
  lives_later k r h = (h.0, h.1, inl h.2)

  received_live : (room : Room) (n : ℕ) (said : ClientMessage) (reply : Handled) (after : Room) (ks : List ℕ) → Reachable schemas after → n < 2 ^ 64
      → ((k : ℕ) → LiveOrOver k room → LiveOrOver k after) → Appends schemas room n said reply after ks → OnlyLive room → OnlyLive after
  received_live room n said Taken after ks reached small on h lives k less present =
      let entry = h.0 in
      let pushed = h.1 in
      let now : Room = record room { history = entry ∷ room.history } in
      let there : is_present k now ≡ true = present_before k ks (entry ∷ room.history) (sym (ap (λ hs. is_some (value_at (records_of hs) (presence_id k))) h.2.appended) ∙ present) in
      let before : LiveAt k room = by_number (λ b. LiveAt k room) k n
      (λ same. subst (λ j. LiveAt j room) (sym same) (pushed.session, pushed.there, record { sent = pushed.sent; plan = pushed.plan; is = pushed.is_live }))
      (λ apart. lives k less (sym (ap is_some (entry_untouched room.history entry after.sessions n k small less apart (pushed_named room n said entry after ks reached pushed h.2))) ∙ there)) in
      closing_lives k now after ks h.2 before (on k (lives_later k room before)) present
  received_live room n said Entered after ks reached small on h lives k less present =
      let before = lives k less (present_before k ks room.history (sym (ap (λ hs. is_some (value_at (records_of hs) (presence_id k))) h.appended) ∙ present)) in
      closing_lives k room after ks h before (on k (lives_later k room before)) present
  received_live room n said Pong after ks reached small on h lives k less present =
      let before = lives k less (present_before k ks room.history (sym (ap (λ hs. is_some (value_at (records_of hs) (presence_id k))) h.appended) ∙ present)) in
      closing_lives k room after ks h before (on k (lives_later k room before)) present
  received_live room n said (Ended reason) after ks reached small on h lives k less present =
      let before = lives k less (present_before k ks room.history (sym (ap (λ hs. is_some (value_at (records_of hs) (presence_id k))) h.appended) ∙ present)) in
      closing_lives k room after ks h before (on k (lives_later k room before)) present

  given_live : (room : Room) (n : ℕ) (s : Session) (notice : _) (after : Session) → Gives room n s notice after → IsLive s.phase → IsLive after.phase
  given_live room n s _ _ (tells_end reason is) l = absurd (let e : live l.sent l.plan ≡ ended reason false = sym l.is ∙ is in cc)
  given_live room n s _ _ (answers request reached plan is) l = absurd (let e : live l.sent l.plan ≡ asked request reached plan = sym l.is ∙ is in cc)
  given_live room n s _ _ (pongs some) l = l
  given_live room n s _ _ (tells sent plan is less) l = record { sent = length room.history; plan = plan; is = refl }

  got_still : (xs : List Session) (k : ℕ) (y z : Session) → slice_get xs k ≡ Some z → slice_get (xs ++ y ∷ []) k ≡ Some z
  got_still [] k y z is = absurd (cc)
  got_still (x ∷ xs) zero y z is = is
  got_still (x ∷ xs) (suc k) y z is = got_still xs k y z is

  -- a session that has entered has a number below 2^64
  number_small : (room : Room) (n : ℕ) (s : Session) → Reachable schemas room → slice_get room.sessions n ≡ Some s → n < 2 ^ 64
  number_small room n s reached at = let few = few_entered schemas room reached in let less = slice_get_within room.sessions n s at in omega arith

  only_live : (room : Room) → Reachable schemas room → OnlyLive room
  only_live room (begins _ beginning) k less present = absurd (nobody_present schemas lawful room beginning k present)
  only_live _ (entered readonly room after before is) k less present =
      let on = entered_is readonly room after is in
      let old : LiveAt k room = only_live room before k less (subst (λ (r : Room). is_present k r ≡ true) (sym on.1) present) in
      subst (LiveAt k) on.1 (old.0, got_still room.sessions k _ old.0 old.1, old.2)
  only_live _ (received n said room replied before rising is) k less present =
      let at = message_receives schemas room n said replied is in
      let on = message_appends schemas room n said replied is in
      received_live room n said replied.reply replied.room on.0 (received n said room replied before rising is) (number_small room n at.0 before at.1.at)
      (λ j h. message_lives schemas j room n said replied is h) on.1 (only_live room before) k less present
  only_live _ (drained n given room before is) k less present =
      let old = only_live room before k less present in
      let at = drain_gives schemas room n given is in
      by_number (λ b. LiveAt k (after_drain room n given)) k n
      (λ same.
      let some : Some old.0 ≡ Some at.0 = sym old.1 ∙ ap (slice_get room.sessions) same ∙ at.1.at in
      let it : old.0 ≡ at.0 = cc in (
        given.after,
        ap (slice_get (slice_set room.sessions n given.after)) same ∙ set_at_place room.sessions n at.0 given.after at.1.at,
        given_live room n at.0 given.notice given.after at.2 (subst (λ (x : Session). IsLive x.phase) it old.2),
      ))
      (λ apart. (old.0, set_elsewhere room.sessions n k given.after apart ∙ old.1, old.2))
  only_live _ (left n room after before is) k less present =
      let on = leave_closes schemas room n after is in
      let old = only_live room before k less (present_before k on.0 room.history (sym (ap (λ hs. is_some (value_at (records_of hs) (presence_id k))) on.1.appended) ∙ present)) in
      closing_lives k room after on.0 on.1 old (leave_lives k room after n is (lives_later k room old)) present

  pub presences_live : (room : Room) → Reachable schemas room → ArePresencesLive room
  presences_live room reached k s at present =
      let on = only_live room reached k (number_small room k s reached at) present in
      let some : Some on.0 ≡ Some s = sym on.1 ∙ at in
      let it : on.0 ≡ s = cc in
      subst (λ (x : Session). IsLive x.phase) it on.2

  -- nobody changes the presence of another session that stays

  entered_open : (k : ℕ) (r : Room) → was_open r k ≡ true → k < length r.sessions
  entered_open k r is = elim (slice_get r.sessions k) as (λ o. slice_get r.sessions k ≡ o → option_map_or (λ (s : Session). not (is_over s.phase)) o false ≡ true → k < length r.sessions) [
    | None ↦ λ at a. absurd (differ (sym a))
    | Some s ↦ λ at a. slice_get_within r.sessions k s at
  ] refl is

  removals_untouched : (before after : Room) (k : ℕ) (ks : List ℕ) (history : History) → length before.sessions ≤ MOST_ENTERED → k < 2 ^ 64 → was_open after k ≡ true
      → list_all (λ j. was_open before j && is_closed after j) ks ≡ true
      → value_at (records_of (with_removals ks history)) (presence_id k) ≡ value_at (records_of history) (presence_id k)
  removals_untouched before after k [] history few less stays all = refl
  removals_untouched before after k (j ∷ ks) history few less stays all =
      let m = records_of history in
      let this = and_left _ _ all in
      let entered = entered_open j before (and_left _ _ this) in
      let apart : k ≡ j → ⊥ = λ same. not_open k after stays (ap (is_closed after) same ∙ and_right _ _ this) in
      removals_untouched before after k ks (removal j ∷ history) few less stays (and_right _ _ all) ∙ at-set_at m (presence_id j) (presence_id k) None
      ∙ ap (λ b. cond b None (value_at m (presence_id k))) (apart_ids j k (omega arith) less apart)

  closing_untouched : (before after : Room) (k : ℕ) (ks : List ℕ) → length before.sessions ≤ MOST_ENTERED → k < 2 ^ 64 → was_open after k ≡ true → IsClosing before after ks → HasSamePresence k before after
  closing_untouched before after k ks few less stays closing =
      ap (λ hs. value_at (records_of hs) (presence_id k)) closing.appended ∙ removals_untouched before after k ks before.history few less stays closing.ends

  appended_untouched : (room : Room) (n k : ℕ) (said : ClientMessage) (reply : Handled) (after : Room) (ks : List ℕ) → Reachable schemas after → length room.sessions ≤ MOST_ENTERED
      → n < 2 ^ 64 → k < 2 ^ 64 → (k ≡ n → ⊥) → was_open after k ≡ true → Appends schemas room n said reply after ks → HasSamePresence k room after
  appended_untouched room n k said Taken after ks reached few small less apart stays h =
      closing_untouched (record room { history = h.0 ∷ room.history }) after k ks few less stays h.2
      ∙ entry_untouched room.history h.0 after.sessions n k small less apart (pushed_named room n said h.0 after ks reached h.1 h.2)
  appended_untouched room n k said Entered after ks reached few small less apart stays h = closing_untouched room after k ks few less stays h
  appended_untouched room n k said Pong after ks reached few small less apart stays h = closing_untouched room after k ks few less stays h
  appended_untouched room n k said (Ended reason) after ks reached few small less apart stays h = closing_untouched room after k ks few less stays h

  pub message_untouched : (room : Room) (n k : ℕ) (said : ClientMessage) (replied : Replied) → Reachable schemas room → Reachable schemas replied.room
      → after_message schemas room n said ≡ Some replied → (k ≡ n → ⊥) → was_open replied.room k ≡ true → HasSamePresence k room replied.room
  message_untouched room n k said replied reached later is apart stays =
      let at = message_receives schemas room n said replied is in
      let on = message_appends schemas room n said replied is in
      let few = few_entered schemas room reached in
      let many = few_entered schemas replied.room later in
      let less = entered_open k replied.room stays in
      appended_untouched room n k said replied.reply replied.room on.0 later few (number_small room n at.0 reached at.1.at) (omega arith) apart stays on.1

  pub leave_untouched : (room : Room) (n k : ℕ) (after : Room) → Reachable schemas room → after_leave room n ≡ Some after → was_open after k ≡ true → HasSamePresence k room after
  leave_untouched room n k after reached is stays =
      let on = leave_closes schemas room n after is in
      let few = few_entered schemas room reached in
      let many = few_entered schemas after (left n room after reached is) in
      let less = entered_open k after stays in
      closing_untouched room after k on.0 few (omega arith) stays on.1
