-- Where the sent clocks of live sessions lie.
use Rattle.std.proofs.Common.{◌≡◌, inl, inr, ℕ, zero, suc, ◌+◌, ◌-◌, ◌≤◌, ◌<◌, min, nat_lt, Bool, true, false, ◌&&◌, cond, List, ◌∷◌, length, get_or, slice_get, slice_set, position, count_by, Option, Some, None, refl, sym, ap, subst, ◌∙◌, arith}
use Rattle.std.specs.List.{position_or_len}
use Rattle.std.specs.Option.{option_map_or}
use Rattle.std.proofs.lemmas.Bool.Decides.{nat_tests}
use Rattle.std.proofs.lemmas.List.Quantifiers.{position-Some}
use Rattle.std.proofs.lemmas.List.Sums.{get_or-le-sum_by, sum_by-set, count_by-le-length, fails_before_first}
use Rattle.std.proofs.lemmas.Option.{slice_get_within, get_or_from_slice_get, slice_get-get_or}
use Rattle.room_model.specs.Schemas.{Schemas}
use Rattle.room_model.specs.Rooms.{Phase, new, asked, live, ended, gone, Session, Room, new_room, start, after_enter, with_session, is_slow, first_slow, is_present, removal, close, close_slow, without_slow, end_slow, after_close}
use Rattle.room_model.specs.Reachable.{Reachable, is_over, IsSentNear, AreSentNear}
use Rattle.room_model.specs.declared.history.Entry.{Entry}
use Rattle.room_model.specs.declared.limits.TheConstants.{MOST_TOLD}
use Rattle.room_model.proofs.BegunLemmas.{beginning_near}
use Rattle.room_model.proofs.CallLemmas.{got-set, got-added, Moves, stays, asks, answered, updated, closes, Goes, Step, nothing, enters, goes, ends, pushes, pushed_by, step_keeps, everywhere}
use Rattle.sync_msgs.specs.declared.client_message.ClientMessage.{ClientMessage}
use Rattle.sync_msgs.specs.declared.end_reason.EndReason.TheVariants.{Slow}

-- a test that first passes nowhere passes at none
none_first : {X : Type 0} (p : X → Bool) (xs : List X) (k : ℕ) (x : X) → position p xs ≡ None → slice_get xs k ≡ Some x → p x ≡ false
none_first p xs k x is at =
    let less = slice_get_within xs k x at in
    let same = get_or_from_slice_get xs k x x at in
    let place = position_or_len p xs in
    elim (nat_lt place (length xs)) as (λ b. nat_lt place (length xs) ≡ b → cond b (Some place) None ≡ None → p x ≡ false) [
      | true ↦ λ t none. absurd (cc)
      | false ↦ λ t none. let before : k < place = grind (arith, nat_tests) in subst (λ y. p y ≡ false) same (fails_before_first p xs k x before)
    ] refl is

-- one that counts none passes at none
none_counted : {X : Type 0} (p : X → Bool) (xs : List X) (k : ℕ) (x : X) → count_by p xs ≤ 0 → slice_get xs k ≡ Some x → p x ≡ false
none_counted p xs k x none at =
    let less = slice_get_within xs k x at in
    let few : cond (p x) 1 0 ≤ count_by p xs = subst (λ y. cond (p y) 1 0 ≤ count_by p xs) (get_or_from_slice_get xs k x x at) (get_or-le-sum_by (λ y. cond (p y) 1 0) xs k x less) in
    elim (p x) as (λ b. cond b 1 0 ≤ count_by p xs → b ≡ false) [ true ↦ λ one. absurd (omega arith) | false ↦ λ one. refl ] few

not_both : (a b : Bool) → (a ≡ true → b ≡ false) → a && b ≡ false
not_both true b h = h refl
not_both false b h = refl

abbrev pub is_live : Phase → Bool
is_live (live sent plan) = true
is_live phase = false

-- how many sessions are live
abbrev count_live : Room → ℕ
count_live room = count_by (λ s. is_live s.phase) room.sessions

slow_live : (start clock : ℕ) (phase : Phase) → is_slow start clock phase ≡ true → is_live phase ≡ true
slow_live start clock new is = is
slow_live start clock (asked request reached plan) is = is
slow_live start clock (live sent plan) is = refl
slow_live start clock (ended reason told) is = is
slow_live start clock gone is = is

other_quick : (start clock : ℕ) (phase : Phase) → is_live phase ≡ false → is_slow start clock phase ≡ false
other_quick start clock new is = refl
other_quick start clock (asked request reached plan) is = refl
other_quick start clock (live sent plan) is = absurd (cc)
other_quick start clock (ended reason told) is = refl
other_quick start clock gone is = refl

over_quick : (start clock : ℕ) (phase : Phase) → is_over phase ≡ true → is_slow start clock phase ≡ false
over_quick start clock new is = refl
over_quick start clock (asked request reached plan) is = refl
over_quick start clock (live sent plan) is = absurd (cc)
over_quick start clock (ended reason told) is = refl
over_quick start clock gone is = refl

-- no session is too slow
abbrev NoneSlow : Room → Type 0
NoneSlow room = (number : ℕ) (s : Session) → slice_get room.sessions number ≡ Some s → is_slow (start room) (length room.history) s.phase ≡ false

pub closed_sessions : (n : ℕ) (s : Session) (phase : Phase) (room : Room) → (close n s phase room).sessions ≡ slice_set room.sessions n (record s { phase = phase })
closed_sessions n s phase room =
    let t : Session = record s { phase = phase } in
    let after : Room = record room { history = removal n ∷ room.history } in
    elim (is_present n room) as (λ b. (with_session n t (cond b after room)).sessions ≡ slice_set room.sessions n t) [ true ↦ refl | false ↦ refl ]

-- the first that is too slow is a live session
pub slow_at : (room : Room) (n : ℕ) → first_slow room ≡ Some n → (s : Session) × (slice_get room.sessions n ≡ Some s) × (is_live s.phase ≡ true)
slow_at room n is =
    let d : Session = record { readonly = false; pings = 0; phase = gone } in
    let first = position-Some (λ s. is_slow (start room) (length room.history) s.phase) room.sessions n d is in
    (get_or room.sessions n d, slice_get-get_or room.sessions n d first.0, slow_live (start room) (length room.history) (get_or room.sessions n d).phase first.1)

pub slow_closing : (room : Room) (n : ℕ) (s : Session) → slice_get room.sessions n ≡ Some s → close_slow room n ≡ close n s (ended Slow false) room
slow_closing room n s at = ap (λ o. option_map_or (λ s. close n s (ended Slow false) room) o room) at

-- each end of one that is too slow leaves one live session fewer
one_fewer : (room : Room) (n : ℕ) → first_slow room ≡ Some n → suc (count_live (close_slow room n)) ≡ count_live room
one_fewer room n is =
    let first = slow_at room n is in
    let s = first.0 in
    let t : Session = record s { phase = ended Slow false } in
    let lives : Session → ℕ = λ s. cond (is_live s.phase) 1 0 in
    let less = slice_get_within room.sessions n s first.1 in
    let same : (close_slow room n).sessions ≡ slice_set room.sessions n t = ap (λ r. r.sessions) (slow_closing room n s first.1) ∙ closed_sessions n s (ended Slow false) room in
    let count : count_live (close_slow room n) ≡ count_by (λ s. is_live s.phase) (slice_set room.sessions n t) = ap (λ xs. count_by (λ s. is_live s.phase) xs) same in
    let one : lives (get_or room.sessions n s) ≡ 1 = ap lives (get_or_from_slice_get room.sessions n s s first.1) ∙ ap (λ b. cond b 1 0) first.2 in
    let sums : count_by (λ s. is_live s.phase) (slice_set room.sessions n t) + lives (get_or room.sessions n s) ≡ count_live room + 0 = sum_by-set lives room.sessions n t s less in
    omega arith

-- so ending as many as are live leaves nobody who is too slow
pub none_slow : (k : ℕ) (room : Room) → count_live room ≤ k → NoneSlow (without_slow k room)
none_slow zero room few = λ number s at. other_quick (start room) (length room.history) s.phase (none_counted (λ s. is_live s.phase) room.sessions number s few at)
none_slow (suc k) room few =
    elim (first_slow room) as (λ o. first_slow room ≡ o → NoneSlow (option_map_or (λ n. without_slow k (close_slow room n)) o room)) [
      | None ↦ λ is number s at. none_first (λ s. is_slow (start room) (length room.history) s.phase) room.sessions number s is at
      | Some n ↦ λ is. let h = one_fewer room n is in none_slow k (close_slow room n) (omega arith)
    ] refl

all_quick : (room : Room) → NoneSlow (end_slow room)
all_quick room = none_slow (length room.sessions) room (count_by-le-length (λ s. is_live s.phase) room.sessions)

now_quick : (start clock : ℕ) → (nat_lt clock start && nat_lt (clock + MOST_TOLD) clock) ≡ false
now_quick start clock = not_both (nat_lt clock start) (nat_lt (clock + MOST_TOLD) clock) (λ is. grind (arith, nat_tests))

goes_quick : (start clock : ℕ) (p q : Phase) → Moves clock p q → is_slow start clock p ≡ false → is_slow start clock q ≡ false
goes_quick start clock p _ (stays _) h = h
goes_quick start clock _ _ (asks request reached plan) h = refl
goes_quick start clock _ _ (answered request reached plan) h = now_quick start clock
goes_quick start clock _ _ (updated sent plan) h = now_quick start clock
goes_quick start clock _ q (closes _ _ over) h = over_quick start clock q over

with_quick : (room : Room) (n : ℕ) (t : Session) → is_slow (start room) (length room.history) t.phase ≡ false → NoneSlow room → NoneSlow (with_session n t room)
with_quick room n t quick h = λ number s at. elim (got-set room.sessions n number t s at) [
  | inl same ↦ ap (λ s. is_slow (start room) (length room.history) s.phase) same.1 ∙ quick
  | inr before ↦ h number s before
]

closed_quick : (room : Room) (n : ℕ) (s : Session) (phase : Phase) → is_over phase ≡ true → NoneSlow room → NoneSlow (after_close n s phase room)
closed_quick room n s phase over h =
    let t : Session = record s { phase = phase } in
    let after : Bool → Room = λ b. with_session n t (cond b (record room { history = removal n ∷ room.history }) room) in
    elim (is_present n room) as (λ b. NoneSlow (cond b (end_slow (after b)) (after b))) [
      | true ↦ all_quick (after true)
      | false ↦ with_quick room n t (over_quick (start room) (length room.history) phase over) h
    ]

step_quick : (schemas : Schemas) (o : Option (ℕ × ClientMessage)) (room after : Room) → Step schemas o room after → NoneSlow room → NoneSlow after
step_quick schemas o room after (nothing none same) h = subst NoneSlow (sym same) h
step_quick schemas o room after (enters readonly none same) h =
    let s : Session = record { readonly = readonly; pings = 0; phase = new } in
    subst NoneSlow (sym same) (λ number t at. elim (got-added room.sessions number s t at) [
      | inl added ↦ ap (λ s. is_slow (start room) (length room.history) s.phase) added
      | inr before ↦ h number t before
    ])
step_quick schemas o room after (goes n s t none at on kept same) h =
    subst NoneSlow (sym same) (with_quick room n t (goes_quick (start room) (length room.history) s.phase t.phase on.moves (h n s at)) h)
step_quick schemas o room after (ends n s phase none at before over same) h = subst NoneSlow (sym same) (closed_quick room n s phase over h)
step_quick schemas o room after (pushes n s sent plan said push some says at is taken same) h =
    subst NoneSlow (sym same) (all_quick (record room { history = pushed_by schemas room n s plan push ∷ room.history }))

-- a sent clock is at most a clock
abbrev IsSentBelow : ℕ → Phase → Type 0
IsSentBelow clock (live sent plan) = sent ≤ clock
IsSentBelow clock phase = Unit {0}

abbrev AreSentBelow : Room → Type 0
AreSentBelow room = (number : ℕ) (s : Session) → slice_get room.sessions number ≡ Some s → IsSentBelow (length room.history) s.phase

later_below : (clock : ℕ) (phase : Phase) → IsSentBelow clock phase → IsSentBelow (suc clock) phase
later_below clock new h = tt
later_below clock (asked request reached plan) h = tt
later_below clock (live sent plan) h = omega arith
later_below clock (ended reason told) h = tt
later_below clock gone h = tt

over_below : (clock : ℕ) (phase : Phase) → is_over phase ≡ true → IsSentBelow clock phase
over_below clock new h = tt
over_below clock (asked request reached plan) h = tt
over_below clock (live sent plan) h = absurd (cc)
over_below clock (ended reason told) h = tt
over_below clock gone h = tt

goes_below : (clock : ℕ) (p q : Phase) → Moves clock p q → IsSentBelow clock p → IsSentBelow clock q
goes_below clock p _ (stays _) h = h
goes_below clock _ _ (asks request reached plan) h = tt
goes_below clock _ _ (answered request reached plan) h = omega arith
goes_below clock _ _ (updated sent plan) h = omega arith
goes_below clock _ q (closes _ _ over) h = over_below clock q over

with_below : (room : Room) (n : ℕ) (s t : Session) → slice_get room.sessions n ≡ Some s → Goes (length room.history) s t → AreSentBelow room → AreSentBelow (with_session n t room)
with_below room n s t at on h = λ number u found. elim (got-set room.sessions n number t u found) [
  | inl same ↦ subst (λ u. IsSentBelow (length room.history) u.phase) (sym same.1) (goes_below (length room.history) s.phase t.phase on.moves (h n s at))
  | inr before ↦ h number u before
]

more_below : (room : Room) (entry : Entry) → AreSentBelow room → AreSentBelow (record room { history = entry ∷ room.history })
more_below room entry h = λ number s at. later_below (length room.history) s.phase (h number s at)

entered_below : (room : Room) (readonly : Bool) → AreSentBelow room → AreSentBelow (after_enter readonly room)
entered_below room readonly h = λ number t at.
    let s : Session = record { readonly = readonly; pings = 0; phase = new } in
    elim (got-added room.sessions number s t at) [
      | inl added ↦ subst (λ u. IsSentBelow (length room.history) u.phase) (sym added) tt
      | inr before ↦ h number t before
    ]

step_below : (schemas : Schemas) (o : Option (ℕ × ClientMessage)) (room after : Room) → Step schemas o room after → AreSentBelow room → AreSentBelow after
step_below schemas o room after step h =
    step_keeps AreSentBelow with_below (λ r n is. more_below r (removal n)) schemas o entered_below
    (λ r n s sent plan said push some says at is taken. more_below r (pushed_by schemas r n s plan push)) room after step h

-- the two together, and apart
near : (start clock : ℕ) (phase : Phase) → IsSentBelow clock phase → is_slow start clock phase ≡ false → IsSentNear start clock phase
near start clock new below quick = tt
near start clock (asked request reached plan) below quick = tt
near start clock (live sent plan) below quick = (
  below,
  elim (nat_lt sent start) as (λ b. nat_lt sent start ≡ b → b && nat_lt (sent + MOST_TOLD) clock ≡ false → min start (clock - MOST_TOLD) ≤ sent) [
    | true ↦ λ low high. grind (arith, nat_tests)
    | false ↦ λ low high. grind (arith, nat_tests)
  ] refl quick,
)
near start clock (ended reason told) below quick = tt
near start clock gone below quick = tt

near_below : (start clock : ℕ) (phase : Phase) → IsSentNear start clock phase → IsSentBelow clock phase
near_below start clock new h = tt
near_below start clock (asked request reached plan) h = tt
near_below start clock (live sent plan) h = h.0
near_below start clock (ended reason told) h = tt
near_below start clock gone h = tt

near_quick : (start clock : ℕ) (phase : Phase) → IsSentNear start clock phase → is_slow start clock phase ≡ false
near_quick start clock new h = refl
near_quick start clock (asked request reached plan) h = refl
near_quick start clock (live sent plan) h = let low = h.1 in not_both (nat_lt sent start) (nat_lt (sent + MOST_TOLD) clock) (λ is. grind (arith, nat_tests))
near_quick start clock (ended reason told) h = refl
near_quick start clock gone h = refl

pub step_near : (schemas : Schemas) (o : Option (ℕ × ClientMessage)) (room after : Room) → Step schemas o room after → AreSentNear room → AreSentNear after
step_near schemas o room after step h =
    let below = step_below schemas o room after step (λ number s at. near_below (start room) (length room.history) s.phase (h number s at)) in
    let quick = step_quick schemas o room after step (λ number s at. near_quick (start room) (length room.history) s.phase (h number s at)) in
    λ number s at. near (start after) (length after.history) s.phase (below number s at) (quick number s at)

pub new_near : (last : ℕ) → AreSentNear (new_room last)
new_near last = λ number s at. absurd (cc)

pub reachable_near : (schemas : Schemas) (room : Room) → Reachable schemas room → AreSentNear room
reachable_near schemas room h = everywhere schemas AreSentNear (beginning_near schemas) (λ o rises r after. step_near schemas o r after) room h
