-- Which entries each call appends.
use Rattle.std.proofs.Common.{◌≡◌, ℕ, zero, suc, ◌+◌, ◌==◌, Bool, true, false, ◌&&◌, cond, not, List, [], ◌∷◌, ◌++◌, length, slice_get, slice_set, Option, Some, None, is_some, is_eq, refl, sym, ap, subst, ◌∙◌, arith}
use Rattle.std.specs.List.{list_all}
use Rattle.std.specs.Option.{option_map_or}
use Rattle.std.proofs.lemmas.Bool.Decides.{Decides-eqb}
use Rattle.std.proofs.lemmas.Option.{same_Some}
use Rattle.rooms_val.proofs.Truths.{unnot_true, and_left, and_right, and_true}
use Rattle.rooms_val.specs.Maps.{value_at, ties}
use Rattle.rooms_val.proofs.MapsLemmas.{order_itself, at-set_at}
use Rattle.room_model.specs.Schemas.{Schemas, presence_id}
use Rattle.room_model.specs.Histories.{History, records_of}
use Rattle.room_model.specs.Closing.{with_removals, was_open, is_closed, IsClosing, Appends, count_taken}
use Rattle.room_model.specs.Reachable.{is_over}
use Rattle.room_model.specs.Rooms.{Phase, new, asked, live, ended, gone, Session, Room, after_enter, with_session, is_present, removal, close, close_slow, first_slow, without_slow, end_slow, after_close, Replied, after_message, after_leave}
use Rattle.room_model.specs.declared.handled.Handled.{Handled}
use Rattle.room_model.specs.declared.handled.Handled.TheVariants.{Taken, Entered, Pong, Ended}
use Rattle.room_model.proofs.ActingLemmas.{all-imp, differ}
use Rattle.room_model.proofs.CallLemmas.{Moves, stays, asks, answered, updated, closes, Goes, Step, nothing, enters, goes, ends, pushes, pushed_by, slow_ended, taken_by, message_step, leave_step}
use Rattle.room_model.proofs.ClockLemmas.{is_live, slow_at, slow_closing, closed_sessions}
use Rattle.sync_msgs.specs.declared.client_message.ClientMessage.{ClientMessage}
use Rattle.sync_msgs.specs.declared.end_reason.EndReason.TheVariants.{Slow}

-- a closed session stays closed
goes_over : (clock : ℕ) (p q : Phase) → Moves clock p q → is_over p ≡ true → is_over q ≡ true
goes_over clock p _ (stays _) h = h
goes_over clock _ _ (asks request reached plan) h = absurd (cc)
goes_over clock _ _ (answered request reached plan) h = absurd (cc)
goes_over clock _ _ (updated sent plan) h = absurd (cc)
goes_over clock _ q (closes _ _ over) h = over

pub live_open : (phase : Phase) → is_live phase ≡ true → is_over phase ≡ false
live_open new is = absurd (cc)
live_open (asked request reached plan) is = refl
live_open (live sent plan) is = refl
live_open (ended reason told) is = absurd (cc)
live_open gone is = absurd (cc)

-- the session of a number after one is set
pub set_at_place : (xs : List Session) (n : ℕ) (s t : Session) → slice_get xs n ≡ Some s → slice_get (slice_set xs n t) n ≡ Some t
set_at_place [] n s t at = absurd (cc)
set_at_place (x ∷ xs) zero s t at = refl
set_at_place (x ∷ xs) (suc n) s t at = set_at_place xs n s t at

pub set_elsewhere : (xs : List Session) (n k : ℕ) (t : Session) → (k ≡ n → ⊥) → slice_get (slice_set xs n t) k ≡ slice_get xs k
set_elsewhere [] n k t apart = refl
set_elsewhere (x ∷ xs) zero zero t apart = absurd (apart refl)
set_elsewhere (x ∷ xs) zero (suc k) t apart = refl
set_elsewhere (x ∷ xs) (suc n) zero t apart = refl
set_elsewhere (x ∷ xs) (suc n) (suc k) t apart = set_elsewhere xs n k t (λ is. apart (ap suc is))

-- whether a session that may be there is closed, or open
abbrev over_at : Option Session → Bool
over_at o = option_map_or (λ s. is_over s.phase) o false

abbrev open_at : Option Session → Bool
open_at o = option_map_or (λ s. not (is_over s.phase)) o false

-- two numbers are the same, or they aren't
pub by_number : (P : Bool → Type 0) (k n : ℕ) → (k ≡ n → P true) → ((k ≡ n → ⊥) → P false) → P (k == n)
by_number P k n same apart = elim (k == n) as (λ b. (k == n) ≡ b → P b) [
  | true ↦ λ is. same ((Decides-eqb k n).0 is)
  | false ↦ λ is. apart (λ e. differ (sym ((Decides-eqb k n).1 e) ∙ is))
] refl

set_closed : (k : ℕ) (room : Room) (n : ℕ) (s t : Session) → slice_get room.sessions n ≡ Some s → Goes (length room.history) s t
    → is_closed room k ≡ true → is_closed (with_session n t room) k ≡ true
set_closed k room n s t at on h =
    by_number (λ b. is_closed (with_session n t room) k ≡ true) k n
    (λ same.
    let over : is_over s.phase ≡ true = sym (ap over_at (ap (slice_get room.sessions) same ∙ at)) ∙ h in
    ap over_at (ap (slice_get (slice_set room.sessions n t)) same ∙ set_at_place room.sessions n s t at) ∙ goes_over (length room.history) s.phase t.phase on.moves over)
    (λ apart. ap over_at (set_elsewhere room.sessions n k t apart) ∙ h)

-- one that is closed stays so, however many are ended as too slow
closed_stays : (k j : ℕ) (room : Room) → is_closed room k ≡ true → is_closed (without_slow j room) k ≡ true
closed_stays k j room h = slow_ended (λ r. is_closed r k ≡ true) (set_closed k) (λ r n is h. h) j room h

-- none is both open and closed
not_both_at : (o : Option Session) → open_at o ≡ true → over_at o ≡ true → ⊥
not_both_at None is over = differ (sym is)
not_both_at (Some s) is over = differ (sym over ∙ unnot_true (is_over s.phase) is)

none_closed : (before after : Room) → after.history ≡ before.history → ((k : ℕ) → was_open before k ≡ true → is_closed after k ≡ true → ⊥) → IsClosing before after []
none_closed before after same none = record { appended = same; present = tt; once = refl; ends = refl; gone = λ k is over. absurd (none k is over) }

itself : (room : Room) → IsClosing room room []
itself room = none_closed room room refl (λ k. not_both_at (slice_get room.sessions k))

-- nobody is closed as one enters
open_added : (xs : List Session) (s : Session) (k : ℕ) → open_at (slice_get xs k) ≡ true → over_at (slice_get (xs ++ s ∷ []) k) ≡ true → ⊥
open_added [] s k is over = differ (sym is)
open_added (x ∷ xs) s zero is over = not_both_at (Some x) is over
open_added (x ∷ xs) s (suc k) is over = open_added xs s k is over

-- nor as one goes on that isn't closed by that
open_set : (xs : List Session) (n : ℕ) (s t : Session) → slice_get xs n ≡ Some s → (is_over t.phase ≡ true → is_over s.phase ≡ true)
    → (k : ℕ) → open_at (slice_get xs k) ≡ true → over_at (slice_get (slice_set xs n t) k) ≡ true → ⊥
open_set xs n s t at kept k is over = by_number (λ b. ⊥) k n
    (λ same.
    let now = sym (ap over_at (ap (slice_get (slice_set xs n t)) same ∙ set_at_place xs n s t at)) ∙ over in
    let before = sym (ap open_at (ap (slice_get xs) same ∙ at)) ∙ is in
    not_both_at (Some s) before (kept now))
    (λ apart. not_both_at (slice_get xs k) is (sym (ap over_at (set_elsewhere xs n k t apart)) ∙ over))

-- a presence is gone with its removal, and stays so with each other
presence_removed : (room : Room) (n : ℕ) → is_present n (record room { history = removal n ∷ room.history }) ≡ false
presence_removed room n =
    let m = records_of room.history in
    let id = presence_id n in
    ap is_some (at-set_at m id id None) ∙ ap (λ o. is_some (cond (is_eq o) None (value_at m id))) (order_itself id)

still_absent : (room : Room) (n k : ℕ) → is_present n room ≡ false → is_present n (record room { history = removal k ∷ room.history }) ≡ false
still_absent room n k h =
    let m = records_of room.history in
    ap is_some (at-set_at m (presence_id k) (presence_id n) None)
    ∙ elim (ties (presence_id n) (presence_id k)) as (λ b. is_some (cond b None (value_at m (presence_id n))) ≡ false) [ true ↦ refl | false ↦ h ]

absent_stays : (n j : ℕ) (room : Room) → is_present n room ≡ false → is_present n (without_slow j room) ≡ false
absent_stays n j room h = slow_ended (λ r. is_present n r ≡ false) (λ r k s t at on absent. absent) (λ r k is absent. still_absent r n k absent) j room h

module _ (a : Room) (n : ℕ) (s : Session) (phase : Phase) (at : slice_get a.sessions n ≡ Some s) (here : is_over s.phase ≡ false) (over : is_over phase ≡ true) where
  abbrev closed_session : Session
  closed_session = record s { phase = phase }

  closed_now : is_closed (close n s phase a) n ≡ true
  closed_now = ap (λ xs. over_at (slice_get xs n)) (closed_sessions n s phase a) ∙ ap over_at (set_at_place a.sessions n s closed_session at) ∙ over

  absent_now : is_present n (close n s phase a) ≡ false
  absent_now = elim (is_present n a) as (λ b. is_present n a ≡ b → is_present n (with_session n closed_session (cond b (record a { history = removal n ∷ a.history }) a)) ≡ false) [
    | true ↦ λ is. presence_removed a n
    | false ↦ λ is. is
  ] refl

  -- who is open afterwards was open before, and is another
  open_before : (k : ℕ) → open_at (slice_get (slice_set a.sessions n closed_session) k) ≡ true → (was_open a k ≡ true) × (not (k == n) ≡ true)
  open_before k is =
      by_number (λ b. (was_open a k ≡ true) × (not b ≡ true)) k n
      (λ same. absurd (differ (sym is ∙ ap open_at (ap (slice_get (slice_set a.sessions n closed_session)) same ∙ set_at_place a.sessions n s closed_session at) ∙ ap not over)))
      (λ apart. (sym (ap open_at (set_elsewhere a.sessions n k closed_session apart)) ∙ is, refl))

  -- what is closed after this session
  prepended : (c : Room) (ks : List ℕ) → IsClosing (close n s phase a) c ks → is_closed c n ≡ true → is_present n c ≡ false → (ls : List ℕ) × IsClosing a c ls
  prepended c ks h closed absent =
      let before : Bool → Room = λ b. with_session n closed_session (cond b (record a { history = removal n ∷ a.history }) a) in
      let later : list_all (λ k. open_at (slice_get (slice_set a.sessions n closed_session) k) && is_closed c k) ks ≡ true → list_all (λ k. was_open a k && is_closed c k) ks ≡ true =
      λ all. all-imp (λ k. open_at (slice_get (slice_set a.sessions n closed_session) k) && is_closed c k) (λ k. was_open a k && is_closed c k)
      (λ k both_are. and_true _ _ (open_before k (and_left _ _ both_are)).0 (and_right _ _ both_are)) ks all in
      let none : ((k : ℕ) → open_at (slice_get (slice_set a.sessions n closed_session) k) ≡ true → is_closed c k ≡ true → is_present k c ≡ false) → (k : ℕ) → was_open a k ≡ true → is_closed c k ≡ true → is_present k c ≡ false =
      λ gone k is over. by_number (λ b. is_present k c ≡ false) k n
      (λ same. ap (λ l. is_present l c) same ∙ absent)
      (λ apart. gone k (ap open_at (set_elsewhere a.sessions n k closed_session apart) ∙ is) over) in
      elim (is_present n a) as (λ b. is_present n a ≡ b → IsClosing (before b) c ks → (ls : List ℕ) × IsClosing a c ls) [
        | true ↦ λ is h. (
          n ∷ ks,
          record {
            appended = h.appended;
            present = (is, h.present);
            once = and_true _ _ (all-imp (λ k. open_at (slice_get (slice_set a.sessions n closed_session) k) && is_closed c k) (λ k. not (k == n)) (λ k both_are. (open_before k (and_left _ _ both_are)).1) ks h.ends) h.once;
            ends = and_true _ _ (and_true _ _ (ap open_at at ∙ ap not here) closed) (later h.ends);
            gone = none h.gone;
          },
        )
        | false ↦ λ is h. (ks, record { appended = h.appended; present = h.present; once = h.once; ends = later h.ends; gone = none h.gone })
      ] refl h

  close_then : (j : ℕ) → (ks : List ℕ) × IsClosing (close n s phase a) (without_slow j (close n s phase a)) ks → (ls : List ℕ) × IsClosing a (without_slow j (close n s phase a)) ls
  close_then j h = prepended (without_slow j (close n s phase a)) h.0 h.1 (closed_stays n j (close n s phase a) closed_now) (absent_stays n j (close n s phase a) absent_now)

slow_closes : (j : ℕ) (room : Room) → (ks : List ℕ) × IsClosing room (without_slow j room) ks
slow_closes zero room = ([], itself room)
slow_closes (suc j) room =
    elim (first_slow room) as (λ o. first_slow room ≡ o → (ks : List ℕ) × IsClosing room (option_map_or (λ n. without_slow j (close_slow room n)) o room) ks) [
      | None ↦ λ is. ([], itself room)
      | Some n ↦ λ is.
          let first = slow_at room n is in
          let s = first.0 in
          let after = close n s (ended Slow false) room in
          subst (λ b. (ks : List ℕ) × IsClosing room (without_slow j b) ks) (sym (slow_closing room n s first.1))
          (close_then room n s (ended Slow false) first.1 (live_open s.phase first.2) refl j (slow_closes j after))
    ] refl

after_closes : (room : Room) (n : ℕ) (s : Session) (phase : Phase) → slice_get room.sessions n ≡ Some s → is_over s.phase ≡ false → is_over phase ≡ true
    → (ks : List ℕ) × IsClosing room (after_close n s phase room) ks
after_closes room n s phase at here over =
    let after = close n s phase room in
    elim (is_present n room) as (λ b. (ks : List ℕ) × IsClosing room (cond b (end_slow after) after) ks) [
      | true ↦ close_then room n s phase at here over (length after.sessions) (slow_closes (length after.sessions) after)
      | false ↦ close_then room n s phase at here over 0 ([], itself after)
    ]

module _ (schemas : Schemas) (room : Room) where
  step_closes : (o : Option (ℕ × ClientMessage)) (after : Room) → Step schemas o room after → o ≡ None → (ks : List ℕ) × IsClosing room after ks
  step_closes o after (nothing none same) is = ([], subst (λ r. IsClosing room r []) (sym same) (itself room))
  step_closes o after (enters readonly none same) is =
      ([], subst (λ r. IsClosing room r []) (sym same) (none_closed room (after_enter readonly room) refl (open_added room.sessions _)))
  step_closes o after (goes n s t none at on kept same) is =
      ([], subst (λ r. IsClosing room r []) (sym same) (none_closed room (with_session n t room) refl (open_set room.sessions n s t at kept)))
  step_closes o after (ends n s phase none at here over same) is = subst (λ r. (ks : List ℕ) × IsClosing room r ks) (sym same) (after_closes room n s phase at here over)
  step_closes o after (pushes n s sent plan said push some says at lives taken same) is = absurd (cc)

  taken_appends : (n : ℕ) (said : ClientMessage) (after : Room) → Step schemas (Some (n, said)) room after → (ks : List ℕ) × Appends schemas room n said Taken after ks
  taken_appends n said after (nothing none same) = absurd (cc)
  taken_appends n said after (enters readonly none same) = absurd (cc)
  taken_appends n said after (goes k s t none at on kept same) = absurd (cc)
  taken_appends n said after (ends k s phase none at here over same) = absurd (cc)
  taken_appends n said after (pushes k s sent plan message push some says at is taken same) =
      let entry = pushed_by schemas room k s plan push in
      let now : Room = record room { history = entry ∷ room.history } in
      let closing = slow_closes (length room.sessions) now in
      let it : (ks : List ℕ) × Appends schemas room k message Taken after ks = (
        closing.0,
        (
          entry,
          record { session = s; sent = sent; plan = plan; push = push; there = at; is_live = is; says = says; makes = refl },
          subst (λ r. IsClosing now r closing.0) (sym same) closing.1,
        ),
      ) in
      subst (λ p. (ks : List ℕ) × Appends schemas room p.0 p.1 Taken after ks) (sym (same_Some (n, said) (k, message) some)) it

  appends_by : (n : ℕ) (said : ClientMessage) (reply : Handled) (after : Room) → Step schemas (taken_by n said reply) room after → (ks : List ℕ) × Appends schemas room n said reply after ks
  appends_by n said Taken after step = taken_appends n said after step
  appends_by n said Entered after step = step_closes None after step refl
  appends_by n said Pong after step = step_closes None after step refl
  appends_by n said (Ended reason) after step = step_closes None after step refl

  pub message_appends : (n : ℕ) (said : ClientMessage) (replied : Replied) → after_message schemas room n said ≡ Some replied → (ks : List ℕ) × Appends schemas room n said replied.reply replied.room ks
  message_appends n said replied is = appends_by n said replied.reply replied.room (message_step schemas room n said replied is)

  pub leave_closes : (n : ℕ) (after : Room) → after_leave room n ≡ Some after → (ks : List ℕ) × IsClosing room after ks
  leave_closes n after is = step_closes None after (leave_step schemas room n after is) refl

removals_long : (ks : List ℕ) (history : History) → length (with_removals ks history) ≡ length ks + length history
removals_long [] history = omega arith
removals_long (k ∷ ks) history = let h = removals_long ks (removal k ∷ history) in omega arith

-- how far the clock goes
pub closing_clock : (before after : Room) (ks : List ℕ) → IsClosing before after ks → length after.history ≡ length ks + length before.history
closing_clock before after ks h = ap length h.appended ∙ removals_long ks before.history

pub appends_clock : (schemas : Schemas) (room : Room) (n : ℕ) (said : ClientMessage) (reply : Handled) (after : Room) (ks : List ℕ)
    → Appends schemas room n said reply after ks → length after.history ≡ count_taken reply + length ks + length room.history
appends_clock schemas room n said Taken after ks h = let e = closing_clock _ after ks h.2 in omega arith
appends_clock schemas room n said Entered after ks h = let e = closing_clock room after ks h in omega arith
appends_clock schemas room n said Pong after ks h = let e = closing_clock room after ks h in omega arith
appends_clock schemas room n said (Ended reason) after ks h = let e = closing_clock room after ks h in omega arith
