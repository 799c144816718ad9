-- What an event of a room is to one session.
use Rattle.std.proofs.Common.{◌≡◌, ◌⊎◌, inl, inr, ℕ, zero, suc, ◌-◌, ◌<◌, ◌==◌, nat_lt, Bool, true, false, cond, List, [], ◌∷◌, ◌++◌, length, slice_get, Option, Some, None, option_map, option_and_then, Ok, refl, sym, ap, subst, ◌∙◌, arith}
use Rattle.std.specs.Option.{option_map_or, unwrap_or}
use Rattle.std.proofs.lemmas.Bool.Decides.{nat_tests}
use Rattle.std.proofs.lemmas.Option.{slice_get_past}
use Rattle.room_model.specs.Schemas.{Schemas, Plan}
use Rattle.room_model.specs.Histories.{History, is_by}
use Rattle.room_model.specs.Accepting.{Push, is_taken}
use Rattle.room_model.specs.Closing.{push_of}
use Rattle.room_model.specs.Messages.{snapshot, updates}
use Rattle.room_model.specs.Reachable.{is_over}
use Rattle.room_model.specs.Rooms.{Phase, new, asked, live, ended, gone, Session, Room, is_ended, after_enter, with_session, session_at, is_present, removal, close, close_slow, first_slow, without_slow, end_slow, after_entry, after_close, after_message, leave, Given, next_in, next_for, after_drain}
use Rattle.room_model.specs.declared.handled.Handled.{Handled}
use Rattle.room_model.specs.declared.history.Entry.{Entry}
use Rattle.room_model.proofs.CallLemmas.{member_of, pushed_by}
use Rattle.room_model.proofs.ClockLemmas.{closed_sessions, slow_at, slow_closing}
use Rattle.room_model.proofs.ClosingLemmas.{by_number, set_at_place as set_there, set_elsewhere}
use Rattle.room_events.specs.Events.{session_of}
use Rattle.room_events.specs.Legal.{room_after, Happens}
use Rattle.room_events.specs.declared.room_event.RoomEvent.{RoomEvent}
use Rattle.room_events.specs.declared.room_event.RoomEvent.TheVariants.{Enter, Message, Drain, Leave}
use Rattle.room_events.proofs.CallLemmas.{there, Receives, ignores, asks_now, pings_now, refuses, takes_now, message_receives}
use Rattle.rooms_val.proofs.Truths.{mapped, some_there}
use Rattle.room_events.proofs.RunLemmas.{added_last, added_elsewhere}
use Rattle.migrate_seq.specs.Versions.{Versions}
use Rattle.sync_msgs.specs.declared.client_message.ClientMessage.{ClientMessage}
use Rattle.sync_msgs.specs.declared.client_message.ClientMessage.TheVariants as message
use Rattle.sync_msgs.specs.declared.end_reason.EndReason.TheVariants.{Slow}
use Rattle.sync_msgs.specs.declared.out.Out.{Out}
use Rattle.sync_msgs.specs.declared.out.Out.TheVariants as out
use Rattle.sync_msgs.specs.declared.server_message.ServerMessage.TheVariants as reply

-- how far the session of a number is, if it has entered
abbrev pub phase_at : ℕ → Room → Option Phase
phase_at n room = option_map (λ s. s.phase) (slice_get room.sessions n)

abbrev pub over_at : Option Phase → Bool
over_at None = false
over_at (Some phase) = is_over phase

-- a history with further entries, none of them by a session
pub data Grows (n : ℕ) (history : History) : History → Type 0 where
  same : Grows n history history
  more : (entry : Entry) (after : History) → is_by n entry ≡ false → Grows n history after → Grows n history (entry ∷ after)

grows_on : (n : ℕ) (a b c : History) → Grows n a b → Grows n b c → Grows n a c
grows_on n a b _ h same = h
grows_on n a b _ h (more entry after by k) = more entry after by (grows_on n a b after h k)

-- from one room to another nothing happens to a session, but that it may be closed
pub record Still (n : ℕ) (room after : Room) : Type 0 where
  pub phase : (phase_at n after ≡ phase_at n room) ⊎ (over_at (phase_at n after) ≡ true)
  pub grows : Grows n room.history after.history

still : (n : ℕ) (room : Room) → Still n room room
still n room = record { phase = inl refl; grows = same }

still_then : (n : ℕ) (a b c : Room) → Still n a b → Still n b c → Still n a c
still_then n a b c h k = record {
  phase = elim k.phase [
    | inl is ↦ elim h.phase [ inl before ↦ inl (is ∙ before) | inr over ↦ inr (ap over_at is ∙ over) ]
    | inr over ↦ inr over
  ];
  grows = grows_on n a.history b.history c.history h.grows k.grows;
}

still_over : (n : ℕ) (a b : Room) → Still n a b → over_at (phase_at n a) ≡ true → over_at (phase_at n b) ≡ true
still_over n a b h over = elim h.phase [ inl is ↦ ap over_at is ∙ over | inr over ↦ over ]

module _ (room : Room) (m : ℕ) (s t : Session) (at : slice_get room.sessions m ≡ Some s) where
  phase_now : phase_at m room ≡ Some s.phase
  phase_now = ap (option_map (λ s. s.phase)) at

  phase_set : phase_at m (with_session m t room) ≡ Some t.phase
  phase_set = ap (option_map (λ s. s.phase)) (set_there room.sessions m s t at)

  phase_else : (n : ℕ) → (n ≡ m → ⊥) → phase_at n (with_session m t room) ≡ phase_at n room
  phase_else n apart = ap (option_map (λ s. s.phase)) (set_elsewhere room.sessions m n t apart)

  else_still : (n : ℕ) → (n ≡ m → ⊥) → Still n room (with_session m t room)
  else_still n apart = record { phase = inl (phase_else n apart); grows = same }

  over_still : (n : ℕ) → is_over t.phase ≡ true → Still n room (with_session m t room)
  over_still n over = by_number (λ b. Still n room (with_session m t room)) n m
      (λ is. record { phase = inr (ap (λ k. over_at (phase_at k (with_session m t room))) is ∙ ap over_at phase_set ∙ over); grows = same })
      (λ apart. else_still n apart)

module _ (room : Room) (m : ℕ) (s : Session) (phase : Phase) (at : slice_get room.sessions m ≡ Some s) (over : is_over phase ≡ true) where
  close_still : (n : ℕ) → Still n room (close m s phase room)
  close_still n =
      let t : Session = record s { phase = phase } in
      let now : Room = record room { history = removal m ∷ room.history } in
      let set = over_still room m s t at n over in
      elim (is_present m room) as (λ b. Still n room (with_session m t (cond b now room))) [
        | true ↦ record { phase = set.phase; grows = more (removal m) room.history refl same }
        | false ↦ set
      ]

  close_over : over_at (phase_at m (close m s phase room)) ≡ true
  close_over =
      let t : Session = record s { phase = phase } in
      ap (λ xs. over_at (option_map (λ s. s.phase) (slice_get xs m))) (closed_sessions m s phase room) ∙ ap over_at (phase_set room m s t at) ∙ over

slow_still : (n k : ℕ) (room : Room) → Still n room (without_slow k room)
slow_still n zero room = still n room
slow_still n (suc k) room =
    elim (first_slow room) as (λ o. first_slow room ≡ o → Still n room (option_map_or (λ j. without_slow k (close_slow room j)) o room)) [
      | None ↦ λ is. still n room
      | Some j ↦ λ is.
          let first = slow_at room j is in
          let one : Still n room (close_slow room j) = subst (Still n room) (sym (slow_closing room j first.0 first.1)) (close_still room j first.0 (ended Slow false) first.1 refl n) in
          still_then n room (close_slow room j) (without_slow k (close_slow room j)) one (slow_still n k (close_slow room j))
    ] refl

after_still : (n : ℕ) (room : Room) (m : ℕ) (s : Session) (phase : Phase) → Still n (close m s phase room) (after_close m s phase room)
after_still n room m s phase =
    let after = close m s phase room in
    elim (is_present m room) as (λ b. Still n after (cond b (end_slow after) after)) [ true ↦ slow_still n (length after.sessions) after | false ↦ still n after ]

module _ (room : Room) (m : ℕ) (s : Session) (phase : Phase) (at : slice_get room.sessions m ≡ Some s) (over : is_over phase ≡ true) where
  closing_still : (n : ℕ) → Still n room (after_close m s phase room)
  closing_still n = still_then n room (close m s phase room) (after_close m s phase room) (close_still room m s phase at over n) (after_still n room m s phase)

  closing_over : over_at (phase_at m (after_close m s phase room)) ≡ true
  closing_over = still_over m (close m s phase room) (after_close m s phase room) (after_still m room m s phase) (close_over room m s phase at over)

-- something given tells nothing of the room
abbrev pub IsQuiet : Option Out → Type 0
IsQuiet (Some (out.Message (reply.Connect hydration request protocol versions diff clock readonly))) = ⊥
IsQuiet (Some (out.Message (reply.Data events))) = ⊥
IsQuiet (Some (out.Message reply.Pong)) = Unit {0}
IsQuiet (Some (out.End reason)) = Unit {0}
IsQuiet None = Unit {0}

-- what an event is to a session
pub data Seen (schemas : Schemas) (n : ℕ) (room : Room) : RoomEvent → Room → Type 0 where
  -- it is another's
  passes : (event : RoomEvent) (after : Room) → (session_of event ≡ n → ⊥) → Still n room after → Seen schemas n room event after
  enters : (readonly : Bool) (after : Room) → phase_at n room ≡ None → phase_at n after ≡ Some new → after.history ≡ room.history → Seen schemas n room (Enter n readonly) after
  asks : (request : List ℕ) (reached : _) (protocol : _) (versions : Versions) (replied : Handled) (plan : Plan) (after : Room) → phase_at n room ≡ Some new
      → phase_at n after ≡ Some (asked request reached plan) → schemas.plan_for versions ≡ Ok plan → after.history ≡ room.history
      → Seen schemas n room (Message n (message.Connect request reached protocol versions) replied) after
  pings : (replied : Handled) (after : Room) → Still n room after → Seen schemas n room (Message n message.Ping replied) after
  takes : (said : ClientMessage) (replied : Handled) (s : Session) (sent : ℕ) (plan : Plan) (push : Push) (after : Room) → push_of said ≡ Some push
      → slice_get room.sessions n ≡ Some s → s.phase ≡ live sent plan → is_taken schemas (member_of n s plan) push ≡ true
      → Still n (record room { history = pushed_by schemas room n s plan push ∷ room.history }) after → Seen schemas n room (Message n said replied) after
  closes : (said : ClientMessage) (replied : Handled) (after : Room) → over_at (phase_at n after) ≡ true → Grows n room.history after.history
      → Seen schemas n room (Message n said replied) after
  leaves : (after : Room) → over_at (phase_at n after) ≡ true → Grows n room.history after.history → Seen schemas n room (Leave n) after
  answers : (s : Session) (request : List ℕ) (reached : _) (plan : Plan) (after : Room) → slice_get room.sessions n ≡ Some s → s.phase ≡ asked request reached plan
      → phase_at n after ≡ Some (live (length room.history) plan) → after.history ≡ room.history
      → Seen schemas n room (Drain n (Some (out.Message (snapshot schemas (member_of n s plan) request reached room.first room.history)))) after
  tells : (s : Session) (sent : ℕ) (plan : Plan) (after : Room) → slice_get room.sessions n ≡ Some s → s.phase ≡ live sent plan → sent < length room.history
      → phase_at n after ≡ Some (live (length room.history) plan) → after.history ≡ room.history
      → Seen schemas n room (Drain n (Some (out.Message (updates schemas (member_of n s plan) sent room.history)))) after
  quiet : (given : Option Out) (after : Room) → IsQuiet given → Still n room after → Seen schemas n room (Drain n given) after

module _ (schemas : Schemas) (room : Room) where
  -- an event of the session itself
  module _ (n : ℕ) (s : Session) (at : slice_get room.sessions n ≡ Some s) where
    received_own : (said : ClientMessage) (replied : Handled) (after : Room) → Receives schemas room n s said after → Seen schemas n room (Message n said replied) after
    received_own said replied _ (ignores over) = closes said replied room (ap over_at (phase_now room n s s at) ∙ over) same
    received_own said replied _ (asks_now request reached protocol versions plan says is planned) =
        let t : Session = record s { phase = asked request reached plan } in
        subst (λ it. Seen schemas n room (Message n it replied) (with_session n t room)) (sym says)
        (asks request reached protocol versions replied plan (with_session n t room) (phase_now room n s s at ∙ ap Some is) (phase_set room n s t at) planned refl)
    received_own said replied _ (pings_now count less says) =
        let t : Session = record s { pings = count } in
        subst (λ it. Seen schemas n room (Message n it replied) (with_session n t room)) (sym says)
        (pings replied (with_session n t room) (record { phase = inl (phase_set room n s t at ∙ sym (phase_now room n s s at)); grows = same }))
    received_own said replied _ (refuses reason) =
        closes said replied (after_close n s (ended reason false) room) (closing_over room n s (ended reason false) at refl) (closing_still room n s (ended reason false) at refl n).grows
    received_own said replied _ (takes_now sent plan push says is taken) =
        let now : Room = record room { history = pushed_by schemas room n s plan push ∷ room.history } in
        takes said replied s sent plan push (after_entry (pushed_by schemas room n s plan push) room) says at is taken (slow_still n (length now.sessions) now)

    abbrev OwnGiven : Option Given → Type 0
    OwnGiven None = Unit {0}
    OwnGiven (Some given) = Seen schemas n room (Drain n (Some given.out)) (after_drain room n given)

    own_if : (b : Bool) (given : Given) (o : Option Given) → (b ≡ true → OwnGiven (Some given)) → OwnGiven o → OwnGiven (cond b (Some given) o)
    own_if true given o h k = h refl
    own_if false given o h k = k

    pong_own : Seen schemas n room (Drain n (Some (out.Message reply.Pong))) (with_session n (record s { pings = s.pings - 1 }) room)
    pong_own =
        let t : Session = record s { pings = s.pings - 1 } in
        quiet (Some (out.Message reply.Pong)) (with_session n t room) tt (record { phase = inl (phase_set room n s t at ∙ sym (phase_now room n s s at)); grows = same })

    given_own : (phase : Phase) → s.phase ≡ phase → OwnGiven (next_in schemas room n s phase)
    given_own new is = own_if (nat_lt 0 s.pings) _ None (λ some. pong_own) tt
    given_own (asked request reached plan) is =
        let t : Session = record s { phase = live (length room.history) plan } in
        answers s request reached plan (with_session n t room) at is (phase_set room n s t at) refl
    given_own (live sent plan) is =
        let t : Session = record s { phase = live (length room.history) plan } in
        own_if (nat_lt 0 s.pings) _ _ (λ some. pong_own)
        (own_if (nat_lt sent (length room.history)) _ None
        (λ some. tells s sent plan (with_session n t room) at is (grind (arith, nat_tests)) (phase_set room n s t at) refl)
        tt)
    given_own (ended reason true) is = tt
    given_own (ended reason false) is =
        let t : Session = record s { phase = ended reason true } in
        quiet (Some (out.End reason)) (with_session n t room) tt (over_still room n s t at n refl)
    given_own gone is = tt

    left_own : Seen schemas n room (Leave n) (leave n s room)
    left_own =
        let t : Session = record s { phase = gone } in
        elim (is_ended s.phase) as (λ b. Seen schemas n room (Leave n) (cond b (with_session n t room) (after_close n s gone room))) [
          | true ↦ leaves (with_session n t room) (ap over_at (phase_set room n s t at)) same
          | false ↦ leaves (after_close n s gone room) (closing_over room n s gone at refl) (closing_still room n s gone at refl n).grows
        ]

  -- an event of another
  module _ (n m : ℕ) (s : Session) (at : slice_get room.sessions m ≡ Some s) (apart : m ≡ n → ⊥) where
    not_by : (m == n) ≡ false
    not_by = by_number (λ b. b ≡ false) m n (λ is. absurd (apart is)) (λ h. refl)

    other : n ≡ m → ⊥
    other is = apart (sym is)

    received_still : (said : ClientMessage) (after : Room) → Receives schemas room m s said after → Still n room after
    received_still said _ (ignores over) = still n room
    received_still said _ (asks_now request reached protocol versions plan says is planned) = else_still room m s (record s { phase = asked request reached plan }) at n other
    received_still said _ (pings_now count less says) = else_still room m s (record s { pings = count }) at n other
    received_still said _ (refuses reason) = closing_still room m s (ended reason false) at refl n
    received_still said _ (takes_now sent plan push says is taken) =
        let entry = pushed_by schemas room m s plan push in
        let now : Room = record room { history = entry ∷ room.history } in
        let one : Still n room now = record { phase = inl refl; grows = more entry room.history not_by same } in
        still_then n room now (after_entry entry room) one (slow_still n (length now.sessions) now)

    left_still : Still n room (leave m s room)
    left_still =
        let t : Session = record s { phase = gone } in
        elim (is_ended s.phase) as (λ b. Still n room (cond b (with_session m t room) (after_close m s gone room))) [
          | true ↦ else_still room m s t at n other
          | false ↦ closing_still room m s gone at refl n
        ]

  own_entered : (number : ℕ) (readonly : Bool) → number ≡ length room.sessions → Seen schemas number room (Enter number readonly) (after_enter readonly room)
  own_entered number readonly is =
      let s : Session = record { readonly = readonly; pings = 0; phase = new } in
      enters readonly (after_enter readonly room)
      (ap (option_map (λ s. s.phase)) (slice_get_past room.sessions number (omega arith)))
      (ap (option_map (λ s. s.phase)) (ap (slice_get (room.sessions ++ s ∷ [])) is ∙ added_last room.sessions s)) refl

  seen_here : (n : ℕ) (event : RoomEvent) (after : Room) → Happens schemas room event after → Seen schemas n room event (room_after schemas room event)
  seen_here n (Enter number readonly) after one =
      let s : Session = record { readonly = readonly; pings = 0; phase = new } in
      by_number (λ b. Seen schemas n room (Enter number readonly) (after_enter readonly room)) number n
      (λ is. subst (λ k. Seen schemas k room (Enter number readonly) (after_enter readonly room)) is (own_entered number readonly one.0.1))
      (λ apart. passes (Enter number readonly) (after_enter readonly room) apart
      (record { phase = inl (ap (option_map (λ s. s.phase)) (added_elsewhere room.sessions n s (λ is. apart (one.0.1 ∙ sym is)))); grows = same }))
  seen_here n (Message number said replied) after one =
      let h = mapped (λ replied. replied.reply) (after_message schemas room number said) replied one.0.1 in
      let k = message_receives schemas room number said h.0 h.1 in
      let now : h.0.room ≡ room_after schemas room (Message number said replied) = sym (ap (λ o. option_map_or (λ replied. replied.room) o room) h.1) in
      subst (Seen schemas n room (Message number said replied)) now
      (by_number (λ b. Seen schemas n room (Message number said replied) h.0.room) number n
      (λ is. subst (λ k. Seen schemas k room (Message number said replied) h.0.room) is (received_own number k.0 k.1.at said replied h.0.room k.2))
      (λ apart. passes (Message number said replied) h.0.room apart (received_still n number k.0 k.1.at apart said h.0.room k.2)))
  seen_here n (Drain number given) after one =
      let h = some_there (session_at number room) one.0.0 in
      let it = there room number h.0 h.1 in
      let next : next_for schemas room number ≡ next_in schemas room number h.0 h.0.phase = ap (option_and_then (λ session. next_in schemas room number session session.phase)) h.1 in
      elim (next_in schemas room number h.0 h.0.phase) as (λ o. next_for schemas room number ≡ o → OwnGiven number h.0 it.at o → Seen schemas n room (Drain number given) (room_after schemas room (Drain number given))) [
        | None ↦ λ is own.
            let said : None ≡ given = sym (ap (option_map (λ given. given.out)) is) ∙ one.0.1 in
            let now : room ≡ room_after schemas room (Drain number given) = sym (ap (λ o. option_map_or (λ given. after_drain room number given) o room) is) in
            subst (Seen schemas n room (Drain number given)) now
            (by_number (λ b. Seen schemas n room (Drain number given) room) number n
            (λ is. subst (λ k. Seen schemas k room (Drain number given) room) is (quiet given room (subst IsQuiet said tt) (still number room)))
            (λ apart. passes (Drain number given) room apart (still n room)))
        | Some next ↦ λ is own.
            let said : Some next.out ≡ given = sym (ap (option_map (λ given. given.out)) is) ∙ one.0.1 in
            let now : after_drain room number next ≡ room_after schemas room (Drain number given) = sym (ap (λ o. option_map_or (λ given. after_drain room number given) o room) is) in
            subst (Seen schemas n room (Drain number given)) now
            (by_number (λ b. Seen schemas n room (Drain number given) (after_drain room number next)) number n
            (λ is. subst (λ k. Seen schemas k room (Drain number given) (after_drain room number next)) is (subst (λ o. Seen schemas number room (Drain number o) (after_drain room number next)) said own))
            (λ apart. passes (Drain number given) (after_drain room number next) apart (else_still room number h.0 next.after it.at n (λ e. apart (sym e)))))
      ] next (given_own number h.0 it.at h.0.phase refl)
  seen_here n (Leave number) after one =
      let h = some_there (session_at number room) one.0 in
      let it = there room number h.0 h.1 in
      let now : leave number h.0 room ≡ room_after schemas room (Leave number) = sym (ap (λ o. unwrap_or o room) (ap (option_map (λ session. leave number session room)) h.1)) in
      subst (Seen schemas n room (Leave number)) now
      (by_number (λ b. Seen schemas n room (Leave number) (leave number h.0 room)) number n
      (λ is. subst (λ k. Seen schemas k room (Leave number) (leave number h.0 room)) is (left_own number h.0 it.at))
      (λ apart. passes (Leave number) (leave number h.0 room) apart (left_still n number h.0 it.at apart)))

  pub seen : (n : ℕ) (event : RoomEvent) (after : Room) → Happens schemas room event after → Seen schemas n room event after
  seen n event after one = subst (Seen schemas n room event) one.1 (seen_here n event after one)
