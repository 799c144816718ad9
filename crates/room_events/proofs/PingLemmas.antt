-- That a session is given at most as many pongs as it sent pings.
use Rattle.std.proofs.Common.{◌≡◌, ℕ, zero, suc, ◌+◌, ◌-◌, ◌≤◌, nat_lt, ◌==◌, Bool, true, false, ◌||◌, cond, List, [], ◌∷◌, ◌++◌, fold, count_by, length, slice_get, slice_set, Option, Some, None, option_map, option_and_then, refl, sym, ap, subst, ◌∙◌, arith}
use Rattle.std.specs.List.{list_any}
use Rattle.std.specs.Option.{option_map_or, unwrap_or}
use Rattle.std.proofs.lemmas.Bool.Decides.{nat_tests}
use Rattle.std.proofs.lemmas.List.Sums.{sum_by-cons}
use Rattle.room_model.specs.Schemas.{Schemas}
use Rattle.room_model.specs.Rooms.{Phase, new, asked, live, ended, gone, Session, Room, new_room, is_ended, after_enter, with_session, session_at, is_present, close, close_slow, first_slow, without_slow, end_slow, after_close, after_message, leave, Given, next_in, next_for, after_drain}
use Rattle.room_model.proofs.CallLemmas.{pushed_by}
use Rattle.room_model.proofs.ClockLemmas.{closed_sessions, slow_at, slow_closing}
use Rattle.room_model.proofs.ClosingLemmas.{by_number, set_at_place as set_there, set_elsewhere}
use Rattle.room_events.specs.Events.{session_of, events_of}
use Rattle.room_events.specs.Legal.{room_after, Happens, AllHappen, Legal, state_of}
use Rattle.room_events.specs.Told.{is_ping, is_pong}
use Rattle.room_events.specs.declared.room_event.RoomEvent.{RoomEvent}
use Rattle.room_events.specs.declared.room_event.RoomEvent.TheVariants.{Enter, Message, Drain, Leave}
use Rattle.room_events.proofs.CallLemmas.{there, Receives, ignores, asks_now, pings_now, refuses, takes_now, message_receives}
use Rattle.rooms_val.proofs.Truths.{mapped, some_there}
use Rattle.sync_msgs.specs.declared.client_message.ClientMessage.{ClientMessage}
use Rattle.sync_msgs.specs.declared.end_reason.EndReason.TheVariants.{Slow}

-- how many pings of the session of a number wait
abbrev waiting_in : List Session → ℕ → ℕ
waiting_in xs k = option_map_or (λ s. s.pings) (slice_get xs k) 0

abbrev waiting : ℕ → Room → ℕ
waiting k room = waiting_in room.sessions k

module _ (xs : List Session) (n : ℕ) (s t : Session) (at : slice_get xs n ≡ Some s) where
  set_waiting : waiting_in (slice_set xs n t) n ≡ t.pings
  set_waiting = ap (λ o. option_map_or (λ s. s.pings) o 0) (set_there xs n s t at)

  else_waiting : (k : ℕ) → (k ≡ n → ⊥) → waiting_in (slice_set xs n t) k ≡ waiting_in xs k
  else_waiting k apart = ap (λ o. option_map_or (λ s. s.pings) o 0) (set_elsewhere xs n k t apart)

  now_waiting : waiting_in xs n ≡ s.pings
  now_waiting = ap (λ o. option_map_or (λ s. s.pings) o 0) at

  same_waiting : t.pings ≡ s.pings → (k : ℕ) → waiting_in (slice_set xs n t) k ≡ waiting_in xs k
  same_waiting same k = by_number (λ b. waiting_in (slice_set xs n t) k ≡ waiting_in xs k) k n
      (λ is. ap (waiting_in (slice_set xs n t)) is ∙ set_waiting ∙ same ∙ sym now_waiting ∙ sym (ap (waiting_in xs) is))
      (λ apart. else_waiting k apart)

close_waiting : (room : Room) (n : ℕ) (s : Session) (phase : Phase) → slice_get room.sessions n ≡ Some s → (k : ℕ) → waiting k (close n s phase room) ≡ waiting k room
close_waiting room n s phase at k = ap (λ xs. waiting_in xs k) (closed_sessions n s phase room) ∙ same_waiting room.sessions n s (record s { phase = phase }) at refl k

slow_waiting : (j : ℕ) (room : Room) (k : ℕ) → waiting k (without_slow j room) ≡ waiting k room
slow_waiting zero room k = refl
slow_waiting (suc j) room k =
    elim (first_slow room) as (λ o. first_slow room ≡ o → waiting k (option_map_or (λ n. without_slow j (close_slow room n)) o room) ≡ waiting k room) [
      | None ↦ λ is. refl
      | Some n ↦ λ is.
          let first = slow_at room n is in
          slow_waiting j (close_slow room n) k ∙ ap (waiting k) (slow_closing room n first.0 first.1) ∙ close_waiting room n first.0 (ended Slow false) first.1 k
    ] refl

after_close_waiting : (room : Room) (n : ℕ) (s : Session) (phase : Phase) → slice_get room.sessions n ≡ Some s → (k : ℕ) → waiting k (after_close n s phase room) ≡ waiting k room
after_close_waiting room n s phase at k =
    let after = close n s phase room in
    elim (is_present n room) as (λ b. waiting k (cond b (end_slow after) after) ≡ waiting k room) [
      | true ↦ slow_waiting (length after.sessions) after k ∙ close_waiting room n s phase at k
      | false ↦ close_waiting room n s phase at k
    ]

entered_waiting : (readonly : Bool) (xs : List Session) (k : ℕ) → waiting_in (xs ++ record { readonly = readonly; pings = 0; phase = new } ∷ []) k ≡ waiting_in xs k
entered_waiting readonly [] zero = refl
entered_waiting readonly [] (suc k) = refl
entered_waiting readonly (x ∷ xs) zero = refl
entered_waiting readonly (x ∷ xs) (suc k) = entered_waiting readonly xs k

left_waiting : (room : Room) (n : ℕ) (s : Session) → slice_get room.sessions n ≡ Some s → (k : ℕ) → waiting k (leave n s room) ≡ waiting k room
left_waiting room n s at k =
    let t : Session = record s { phase = gone } in
    elim (is_ended s.phase) as (λ b. waiting k (cond b (with_session n t room) (after_close n s gone room)) ≡ waiting k room) [
      | true ↦ same_waiting room.sessions n s t at refl k
      | false ↦ after_close_waiting room n s gone at k
    ]

-- how much an event asks and gives
abbrev ping : RoomEvent → ℕ
ping event = cond (is_ping event) 1 0

abbrev pong : RoomEvent → ℕ
pong event = cond (is_pong event) 1 0

-- what is given and what still waits was asked: by an event of the session, or one that isn't
abbrev Pays : ℕ → Room → RoomEvent → Room → Bool → Type 0
Pays n room event after b = waiting n after + cond b (pong event) 0 ≤ waiting n room + cond b (ping event) 0

-- an event that gives none
pays_nothing : (n : ℕ) (room : Room) (event : RoomEvent) (after : Room) → is_pong event ≡ false → waiting n after ≡ waiting n room → (b : Bool) → Pays n room event after b
pays_nothing n room event after none same true = let no : pong event ≡ 0 = ap (λ (b : Bool). cond {A = ℕ} b 1 0) none in omega (arith, no, same)
pays_nothing n room event after none same false = omega (arith, same)

module _ (schemas : Schemas) (n : ℕ) (room : Room) where
  module _ (m : ℕ) (s : Session) (at : slice_get room.sessions m ≡ Some s) where
    received_pays : (said : ClientMessage) (replied : _) (after : Room) → Receives schemas room m s said after → (b : Bool) → (b ≡ (m == n)) → Pays n room (Message m said replied) after b
    received_pays said replied _ (ignores over) b is = pays_nothing n room (Message m said replied) room refl refl b
    received_pays said replied _ (asks_now request reached protocol versions plan says was planned) b is =
        pays_nothing n room (Message m said replied) (with_session m (record s { phase = asked request reached plan }) room) refl (same_waiting room.sessions m s (record s { phase = asked request reached plan }) at refl n) b
    received_pays said replied _ (pings_now count less says) b is =
        let t : Session = record s { pings = count } in
        subst (Pays n room (Message m said replied) (with_session m t room)) (sym is)
        (by_number (Pays n room (Message m said replied) (with_session m t room)) m n
        (λ own.
        let now : waiting n (with_session m t room) ≡ count = sym (ap (λ k. waiting k (with_session m t room)) own) ∙ set_waiting room.sessions m s t at in
        let was : waiting n room ≡ s.pings = sym (ap (λ k. waiting k room) own) ∙ now_waiting room.sessions m s t at in
        let one : ping (Message m said replied) ≡ 1 = ap (λ it. ping (Message m it replied)) says in
        omega (arith, now, was, one, less))
        (λ apart. let same = else_waiting room.sessions m s t at n (λ e. apart (sym e)) in omega (arith, same)))
    received_pays said replied _ (refuses reason) b is =
        pays_nothing n room (Message m said replied) (after_close m s (ended reason false) room) refl (after_close_waiting room m s (ended reason false) at n) b
    received_pays said replied _ (takes_now sent plan push says live_ taken) b is =
        let now : Room = record room { history = pushed_by schemas room m s plan push ∷ room.history } in
        pays_nothing n room (Message m said replied) (end_slow now) refl (slow_waiting (length now.sessions) now n) b

    -- what is given to a session
    abbrev GivenPays : Option Given → Type 0
    GivenPays None = Unit {0}
    GivenPays (Some given) = given.after.pings + pong (Drain m (Some given.out)) ≤ s.pings

    pays_if : (b : Bool) (given : Given) (o : Option Given) → (b ≡ true → GivenPays (Some given)) → GivenPays o → GivenPays (cond b (Some given) o)
    pays_if true given o h k = h refl
    pays_if false given o h k = k

    one_less : nat_lt 0 s.pings ≡ true → s.pings - 1 + 1 ≤ s.pings
    one_less some = grind (arith, nat_tests)

    given_pays : (phase : Phase) → s.phase ≡ phase → GivenPays (next_in schemas room m s phase)
    given_pays new is = pays_if (nat_lt 0 s.pings) _ None one_less tt
    given_pays (asked request reached plan) is = omega arith
    given_pays (live sent plan) is = pays_if (nat_lt 0 s.pings) _ _ one_less (pays_if (nat_lt sent (length room.history)) _ None (λ some. omega arith) tt)
    given_pays (ended reason true) is = tt
    given_pays (ended reason false) is = omega arith
    given_pays gone is = tt

    drained_pays : (given : Given) → GivenPays (Some given) → Pays n room (Drain m (Some given.out)) (after_drain room m given) (m == n)
    drained_pays given pays = by_number (Pays n room (Drain m (Some given.out)) (after_drain room m given)) m n
        (λ own.
        let now : waiting n (after_drain room m given) ≡ given.after.pings = sym (ap (λ k. waiting k (after_drain room m given)) own) ∙ set_waiting room.sessions m s given.after at in
        let was : waiting n room ≡ s.pings = sym (ap (λ k. waiting k room) own) ∙ now_waiting room.sessions m s given.after at in
        omega (arith, now, was, pays))
        (λ apart. let same = else_waiting room.sessions m s given.after at n (λ e. apart (sym e)) in omega (arith, same))

  happens_pays : (event : RoomEvent) (after : Room) → Happens schemas room event after → Pays n room event (room_after schemas room event) (session_of event == n)
  happens_pays (Enter number readonly) after one =
      pays_nothing n room (Enter number readonly) (after_enter readonly room) refl (entered_waiting readonly room.sessions n) (number == n)
  happens_pays (Message number said replied) after one =
      let h = mapped (λ replied. replied.reply) (after_message schemas room number said) replied one.0.1 in
      let k = message_receives schemas room number said h.0 h.1 in
      let now : h.0.room ≡ room_after schemas room (Message number said replied) = sym (ap (λ o. option_map_or (λ replied. replied.room) o room) h.1) in
      subst (λ r. Pays n room (Message number said replied) r (number == n)) now (received_pays number k.0 k.1.at said replied h.0.room k.2 (number == n) refl)
  happens_pays (Drain number given) after one =
      let h = some_there (session_at number room) one.0.0 in
      let it = there room number h.0 h.1 in
      let next : next_for schemas room number ≡ next_in schemas room number h.0 h.0.phase = ap (option_and_then (λ session. next_in schemas room number session session.phase)) h.1 in
      let P : Type 0 = Pays n room (Drain number given) (room_after schemas room (Drain number given)) (number == n) in
      elim (next_in schemas room number h.0 h.0.phase) as (λ o. next_for schemas room number ≡ o → GivenPays number h.0 it.at o → P) [
        | None ↦ λ is pays.
            let said : None ≡ given = sym (ap (option_map (λ given. given.out)) is) ∙ one.0.1 in
            let now : room ≡ room_after schemas room (Drain number given) = sym (ap (λ o. option_map_or (λ given. after_drain room number given) o room) is) in
            subst (λ r. Pays n room (Drain number given) r (number == n)) now
            (subst (λ o. Pays n room (Drain number o) room (number == n)) said (pays_nothing n room (Drain number None) room refl refl (number == n)))
        | Some next ↦ λ is pays.
            let said : Some next.out ≡ given = sym (ap (option_map (λ given. given.out)) is) ∙ one.0.1 in
            let now : after_drain room number next ≡ room_after schemas room (Drain number given) = sym (ap (λ o. option_map_or (λ given. after_drain room number given) o room) is) in
            subst (λ r. Pays n room (Drain number given) r (number == n)) now
            (subst (λ o. Pays n room (Drain number o) (after_drain room number next) (number == n)) said (drained_pays number h.0 it.at next pays))
      ] next (given_pays number h.0 it.at h.0.phase refl)
  happens_pays (Leave number) after one =
      let h = some_there (session_at number room) one.0 in
      let it = there room number h.0 h.1 in
      let now : leave number h.0 room ≡ room_after schemas room (Leave number) = sym (ap (λ o. unwrap_or o room) (ap (option_map (λ session. leave number session room)) h.1)) in
      subst (λ r. Pays n room (Leave number) r (number == n)) now
      (pays_nothing n room (Leave number) (leave number h.0 room) refl (left_waiting room number h.0 it.at n) (number == n))

module _ (schemas : Schemas) (n : ℕ) where
  all_pay : (room : Room) (events : List RoomEvent) → AllHappen schemas room events
      → waiting n (fold (room_after schemas) room events) + count_by is_pong (events_of n events) ≤ waiting n room + count_by is_ping (events_of n events)
  all_pay room [] all = omega arith
  all_pay room (event ∷ events) all =
      let later = events_of n events in
      let next = room_after schemas room event in
      let end = waiting n (fold (room_after schemas) next events) in
      let rest : end + count_by is_pong later ≤ waiting n next + count_by is_ping later =
      subst (λ r. waiting n (fold (room_after schemas) r events) + count_by is_pong later ≤ waiting n r + count_by is_ping later) (sym all.1.1) (all_pay all.0 events all.2) in
      elim (session_of event == n) as (λ b. Pays n room event next b
      → end + count_by is_pong (cond b (event ∷ later) later) ≤ waiting n room + count_by is_ping (cond b (event ∷ later) later)) [
        | true ↦ λ pays.
            let given : count_by is_pong (event ∷ later) ≡ pong event + count_by is_pong later = sum_by-cons (λ e. cond (is_pong e) 1 0) event later in
            let sent : count_by is_ping (event ∷ later) ≡ ping event + count_by is_ping later = sum_by-cons (λ e. cond (is_ping e) 1 0) event later in
            omega (arith, given, sent, rest, pays)
        | false ↦ λ pays. omega (arith, rest, pays)
      ] (happens_pays schemas n room event all.0 all.1)

-- none is counted where none is
none_counted : (test : RoomEvent → Bool) (events : List RoomEvent) → list_any test events ≡ false → count_by test events ≡ 0
none_counted test [] none = refl
none_counted test (event ∷ events) none =
    let more : count_by test (event ∷ events) ≡ cond (test event) 1 0 + count_by test events = sum_by-cons (λ e. cond (test e) 1 0) event events in
    elim (test event) as (λ b. (b || list_any test events) ≡ false → count_by test (event ∷ events) ≡ cond b 1 0 + count_by test events → count_by test (event ∷ events) ≡ 0) [
      | true ↦ λ none more. absurd (cc)
      | false ↦ λ none more. let rest = none_counted test events none in omega (arith, more, rest)
    ] none more

none_there : (test : RoomEvent → Bool) (events : List RoomEvent) → count_by test events ≡ 0 → list_any test events ≡ false
none_there test [] none = refl
none_there test (event ∷ events) none =
    let more : count_by test (event ∷ events) ≡ cond (test event) 1 0 + count_by test events = sum_by-cons (λ e. cond (test e) 1 0) event events in
    elim (test event) as (λ b. count_by test (event ∷ events) ≡ cond b 1 0 + count_by test events → (b || list_any test events) ≡ false) [
      | true ↦ λ more. absurd (omega (arith, more, none))
      | false ↦ λ more. none_there test events (omega (arith, more, none))
    ] more

module _ (schemas : Schemas) (last : ℕ) (events : List RoomEvent) (n : ℕ) (legal : Legal schemas last events) where
  pub pongs_paid : count_by is_pong (events_of n events) ≤ count_by is_ping (events_of n events)
  unfolding Legal state_of
  pongs_paid = let h = all_pay schemas n (new_room last) events legal in omega (arith, h)

  pub no_pong : list_any is_ping (events_of n events) ≡ false → list_any is_pong (events_of n events) ≡ false
  no_pong none =
      let sent = none_counted is_ping (events_of n events) none in
      let most = pongs_paid in
      none_there is_pong (events_of n events) (omega (arith, sent, most))
