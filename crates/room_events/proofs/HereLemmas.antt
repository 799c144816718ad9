-- Which of a room's sessions are in it, and what each call does to that.
use Rattle.std.proofs.Common.{◌≡◌, ℕ, zero, suc, nat_lt, Bool, true, false, not, cond, List, [], ◌∷◌, ◌++◌, map, length, slice_get, slice_set, Option, Some, None, option_and_then, refl, sym, ap, subst, ◌∙◌}
use Rattle.std.specs.Option.{option_map_or}
use Rattle.std.proofs.lemmas.List.{map-append}
use Rattle.std.proofs.lemmas.Option.{same_Some}
use Rattle.room_model.specs.Schemas.{Schemas, Plan}
use Rattle.room_model.specs.Rooms.{Phase, new, asked, live, ended, gone, Session, Room, is_ended, has_left, after_enter, with_session, session_at, unless_left, is_present, close, close_slow, first_slow, without_slow, end_slow, after_entry, after_close, leave, Given, next_in}
use Rattle.room_model.specs.declared.history.Entry.{Entry}
use Rattle.room_model.proofs.ClockLemmas.{is_live, closed_sessions, slow_at, slow_closing}
use Rattle.room_model.proofs.CallLemmas.{pushed_by}
use Rattle.room_events.proofs.CallLemmas.{IsThere, Receives, ignores, asks_now, pings_now, refuses, takes_now}
use Rattle.room_model.proofs.ClosingLemmas.{by_number, set_at_place as set_there, set_elsewhere}
use Rattle.room_model.specs.Reachable.{is_over}
use Rattle.sync_msgs.specs.declared.client_message.ClientMessage.{ClientMessage}
use Rattle.sync_msgs.specs.declared.end_reason.EndReason.TheVariants.{Slow}
use Rattle.rooms_val.proofs.Truths.{unnot_true, unnot_false}

-- a session is in its room
abbrev pub is_here : Session → Bool
is_here s = not (has_left s.phase)

-- the same of each session of a room
abbrev pub here : Room → List Bool
here room = map is_here room.sessions

module _ {X Y : Type 0} (f : X → Y) where
  -- one of a list is set by another that f doesn't tell from it, or that it does
  kept : (xs : List X) (n : ℕ) (s t : X) → slice_get xs n ≡ Some s → f t ≡ f s → map f (slice_set xs n t) ≡ map f xs
  kept [] n s t at same = refl
  kept (x ∷ xs) zero s t at same = ap (λ y. y ∷ map f xs) (same ∙ ap f (sym (same_Some x s at)))
  kept (x ∷ xs) (suc n) s t at same = ap (λ ys. f x ∷ ys) (kept xs n s t at same)

  changed : (xs : List X) (n : ℕ) (t : X) → map f (slice_set xs n t) ≡ slice_set (map f xs) n (f t)
  changed [] n t = refl
  changed (x ∷ xs) zero t = refl
  changed (x ∷ xs) (suc n) t = ap (λ ys. f x ∷ ys) (changed xs n t)

-- up to when a session was told, if it is live, and along which plan
abbrev pub live_of : Phase → Option (ℕ × Plan)
live_of new = None
live_of (asked request reached plan) = None
live_of (live sent plan) = Some (sent, plan)
live_of (ended reason told) = None
live_of gone = None

-- the same of the session of a number
abbrev pub live_at : ℕ → Room → Option (ℕ × Plan)
live_at k room = option_and_then (λ s. live_of s.phase) (slice_get room.sessions k)

-- from one room to another nobody enters, leaves or is given anything
pub record Later (room after : Room) : Type 0 where
  -- the same sessions are there
  pub in_it : here after ≡ here room
  -- who is live afterwards was live before, and was told as much
  pub lives : (k : ℕ) (x : ℕ × Plan) → live_at k after ≡ Some x → live_at k room ≡ Some x

itself : (room : Room) → Later room room
itself room = record { in_it = refl; lives = λ k x is. is }

then : (a b c : Room) → Later a b → Later b c → Later a c
then a b c h k = record { in_it = k.in_it ∙ h.in_it; lives = λ n x is. h.lives n x (k.lives n x is) }

-- as one session is set
module _ (room : Room) (n : ℕ) (s t : Session) (at : slice_get room.sessions n ≡ Some s) where
  pub live_set : live_at n (with_session n t room) ≡ live_of t.phase
  live_set = ap (option_and_then (λ s. live_of s.phase)) (set_there room.sessions n s t at)

  pub live_elsewhere : (k : ℕ) → (k ≡ n → ⊥) → live_at k (with_session n t room) ≡ live_at k room
  live_elsewhere k apart = ap (option_and_then (λ s. live_of s.phase)) (set_elsewhere room.sessions n k t apart)

  pub live_now : live_at n room ≡ live_of s.phase
  live_now = ap (option_and_then (λ s. live_of s.phase)) at

  pub with_here : is_here t ≡ is_here s → here (with_session n t room) ≡ here room
  with_here same = kept is_here room.sessions n s t at same

  with_lives : ((x : ℕ × Plan) → live_of t.phase ≡ Some x → live_of s.phase ≡ Some x) → (k : ℕ) (x : ℕ × Plan) → live_at k (with_session n t room) ≡ Some x → live_at k room ≡ Some x
  with_lives lives k x is = by_number (λ b. live_at k room ≡ Some x) k n
      (λ same.
      let now : live_of t.phase ≡ Some x = sym live_set ∙ sym (ap (λ j. live_at j (with_session n t room)) same) ∙ is in
      ap (λ j. live_at j room) same ∙ live_now ∙ lives x now)
      (λ apart. sym (live_elsewhere k apart) ∙ is)

  with_later : is_here t ≡ is_here s → ((x : ℕ × Plan) → live_of t.phase ≡ Some x → live_of s.phase ≡ Some x) → Later room (with_session n t room)
  with_later same lives = record { in_it = with_here same; lives = with_lives lives }

-- a session comes into its last phase
over_dead : (phase : Phase) (x : ℕ × Plan) → is_over phase ≡ true → live_of phase ≡ Some x → ⊥
over_dead new x over is = absurd (cc)
over_dead (asked request reached plan) x over is = absurd (cc)
over_dead (live sent plan) x over is = absurd (cc)
over_dead (ended reason told) x over is = absurd (cc)
over_dead gone x over is = absurd (cc)

module _ (room : Room) (n : ℕ) (s : Session) (phase : Phase) (at : slice_get room.sessions n ≡ Some s) (over : is_over phase ≡ true) where
  closed_lives : (k : ℕ) (x : ℕ × Plan) → live_at k (close n s phase room) ≡ Some x → live_at k room ≡ Some x
  closed_lives k x is =
      let t : Session = record s { phase = phase } in
      let same : live_at k (close n s phase room) ≡ live_at k (with_session n t room) = ap (λ xs. option_and_then (λ s. live_of s.phase) (slice_get xs k)) (closed_sessions n s phase room) in
      with_lives room n s t at (λ x is. absurd (over_dead phase x over is)) k x (sym same ∙ is)

  close_later : has_left s.phase ≡ false → has_left phase ≡ false → Later room (close n s phase room)
  close_later stays last = record {
    in_it = ap (map is_here) (closed_sessions n s phase room) ∙ kept is_here room.sessions n s (record s { phase = phase }) at (ap not last ∙ sym (ap not stays));
    lives = closed_lives;
  }

live_stays : (phase : Phase) → is_live phase ≡ true → has_left phase ≡ false
live_stays new is = refl
live_stays (asked request reached plan) is = refl
live_stays (live sent plan) is = refl
live_stays (ended reason told) is = refl
live_stays gone is = absurd (cc)

slow_later : (k : ℕ) (room : Room) → Later room (without_slow k room)
slow_later zero room = itself room
slow_later (suc k) room =
    elim (first_slow room) as (λ o. first_slow room ≡ o → Later room (option_map_or (λ n. without_slow k (close_slow room n)) o room)) [
      | None ↦ λ is. itself room
      | Some n ↦ λ is.
          let first = slow_at room n is in
          let one : Later room (close_slow room n) = subst (Later room) (sym (slow_closing room n first.0 first.1)) (close_later room n first.0 (ended Slow false) first.1 refl (live_stays first.0.phase first.2) refl) in
          then room (close_slow room n) (without_slow k (close_slow room n)) one (slow_later k (close_slow room n))
    ] refl

entry_later : (entry : Entry) (room : Room) → Later room (after_entry entry room)
entry_later entry room =
    let now : Room = record room { history = entry ∷ room.history } in
    let rest = slow_later (length room.sessions) now in
    record { in_it = rest.in_it; lives = rest.lives }

-- what follows a close
after_close_later : (room : Room) (n : ℕ) (s : Session) (phase : Phase) → Later (close n s phase room) (after_close n s phase room)
after_close_later room n s phase =
    let after = close n s phase room in
    elim (is_present n room) as (λ b. Later after (cond b (end_slow after) after)) [ true ↦ slow_later (length after.sessions) after | false ↦ itself after ]

module _ (schemas : Schemas) (room : Room) (n : ℕ) (s : Session) (at : slice_get room.sessions n ≡ Some s) (stays : has_left s.phase ≡ false) where
  -- after a message
  pub received_later : (said : ClientMessage) (after : Room) → Receives schemas room n s said after → Later room after
  received_later said _ (ignores over) = itself room
  received_later said _ (asks_now request reached protocol versions plan says is planned) =
      with_later room n s (record s { phase = asked request reached plan }) at (sym (ap not stays)) (λ x none. absurd (cc))
  received_later said _ (pings_now count less says) = with_later room n s (record s { pings = count }) at refl (λ x is. is)
  received_later said _ (refuses reason) =
      then room (close n s (ended reason false) room) (after_close n s (ended reason false) room)
      (close_later room n s (ended reason false) at refl stays refl) (after_close_later room n s (ended reason false))
  received_later said _ (takes_now sent plan push says is taken) = entry_later (pushed_by schemas room n s plan push) room

  -- who is given something is in the room, as before
  abbrev pub IsStill : Option Given → Type 0
  IsStill None = Unit {0}
  IsStill (Some given) = is_here given.after ≡ is_here s

  still_if : (b : Bool) (given : Given) (o : Option Given) → IsStill (Some given) → IsStill o → IsStill (cond b (Some given) o)
  still_if true given o h k = h
  still_if false given o h k = k

  pub given_here : (phase : Phase) → s.phase ≡ phase → IsStill (next_in schemas room n s phase)
  given_here new is = still_if (nat_lt 0 s.pings) _ None refl tt
  given_here (asked request reached plan) is = sym (ap not stays)
  given_here (live sent plan) is = still_if (nat_lt 0 s.pings) _ _ refl (still_if (nat_lt sent (length room.history)) _ None (sym (ap not stays)) tt)
  given_here (ended reason true) is = tt
  given_here (ended reason false) is = sym (ap not stays)
  given_here gone is = tt

  -- who leaves isn't there any more
  pub left_here : here (leave n s room) ≡ slice_set (here room) n false
  left_here =
      let t : Session = record s { phase = gone } in
      elim (is_ended s.phase) as (λ b. here (cond b (with_session n t room) (after_close n s gone room)) ≡ slice_set (here room) n false) [
        | true ↦ changed is_here room.sessions n t
        | false ↦ (after_close_later room n s gone).in_it ∙ ap (map is_here) (closed_sessions n s gone room) ∙ changed is_here room.sessions n t
      ]

  pub left_lives : (k : ℕ) (x : ℕ × Plan) → live_at k (leave n s room) ≡ Some x → live_at k room ≡ Some x
  left_lives k x =
      let t : Session = record s { phase = gone } in
      elim (is_ended s.phase) as (λ b. live_at k (cond b (with_session n t room) (after_close n s gone room)) ≡ Some x → live_at k room ≡ Some x) [
        | true ↦ with_lives room n s t at (λ x is. absurd (cc)) k x
        | false ↦ λ is. closed_lives room n s gone at refl k x ((after_close_later room n s gone).lives k x is)
      ]

pub entered_here : (readonly : Bool) (room : Room) → here (after_enter readonly room) ≡ here room ++ true ∷ []
entered_here readonly room = map-append is_here room.sessions (record { readonly = readonly; pings = 0; phase = new } ∷ [])

-- who enters isn't live
pub entered_lives : (readonly : Bool) (room : Room) (k : ℕ) (x : ℕ × Plan) → live_at k (after_enter readonly room) ≡ Some x → live_at k room ≡ Some x
entered_lives readonly room k x is = added room.sessions k is
  where
    added : (xs : List Session) (k : ℕ) → option_and_then (λ s. live_of s.phase) (slice_get (xs ++ record { readonly = readonly; pings = 0; phase = new } ∷ []) k) ≡ Some x
        → option_and_then (λ s. live_of s.phase) (slice_get xs k) ≡ Some x
    added [] zero is = absurd (cc)
    added [] (suc k) is = is
    added (y ∷ xs) zero is = is
    added (y ∷ xs) (suc k) is = added xs k is

here_is : (xs : List Session) (n : ℕ) (s : Session) → slice_get xs n ≡ Some s → has_left s.phase ≡ false → slice_get (map is_here xs) n ≡ Some true
here_is [] n s at stays = absurd (cc)
here_is (x ∷ xs) zero s at stays = ap Some (ap is_here (same_Some x s at) ∙ ap not stays)
here_is (x ∷ xs) (suc n) s at stays = here_is xs n s at stays

pub there_here : (room : Room) (n : ℕ) (s : Session) → IsThere room n s → slice_get (here room) n ≡ Some true
there_here room n s it = here_is room.sessions n s it.at it.stays

here_found : (xs : List Session) (n : ℕ) → slice_get (map is_here xs) n ≡ Some true → (s : Session) × (option_and_then unless_left (slice_get xs n) ≡ Some s)
here_found [] n is = absurd (cc)
here_found (x ∷ xs) zero is =
    let stays = unnot_true (has_left x.phase) (same_Some (is_here x) true is) in
    (x, ap (λ b. cond b None (Some x)) stays)
here_found (x ∷ xs) (suc n) is = here_found xs n is

pub here_there : (room : Room) (n : ℕ) → slice_get (here room) n ≡ Some true → (s : Session) × (session_at n room ≡ Some s)
here_there room n is = here_found room.sessions n is

here_lost : (xs : List Session) (n : ℕ) → slice_get (map is_here xs) n ≡ Some false → option_and_then unless_left (slice_get xs n) ≡ None
here_lost [] n is = refl
here_lost (x ∷ xs) zero is = ap (λ b. cond b None (Some x)) (unnot_false (has_left x.phase) (same_Some (is_here x) false is))
here_lost (x ∷ xs) (suc n) is = here_lost xs n is

pub here_gone : (room : Room) (n : ℕ) → slice_get (here room) n ≡ Some false → session_at n room ≡ None
here_gone room n is = here_lost room.sessions n is
