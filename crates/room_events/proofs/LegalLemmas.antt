-- How legal lists go on; that calls make the room after one; and who is in that room.
use Rattle.std.proofs.Common.{◌≡◌, ℕ, ◌+◌, nat_le, true, false, ◌||◌, cond, List, [], ◌∷◌, ◌++◌, fold, count_by, length, slice_get, Some, None, option_map, option_and_then, refl, sym, ap, subst, ◌∙◌, arith}
use Rattle.std.specs.Option.{option_map_or, unwrap_or}
use Rattle.std.proofs.lemmas.List.{length-map}
use Rattle.std.proofs.lemmas.List.Sums.{fold-append}
use Rattle.std.proofs.lemmas.Option.{slice_get_past}
use Rattle.room_model.specs.Schemas.{Schemas}
use Rattle.room_model.specs.Rooms.{Session, Room, new_room, is_full, count_here, after_enter, session_at, after_message, leave, next_in, next_for, after_drain}
use Rattle.room_model.specs.Reachable.{anew, Reachable, begins as from_beginning, entered, received, drained, left}
use Rattle.room_model.specs.declared.limits.TheConstants.{MOST_SESSIONS, MOST_ENTERED}
use Rattle.room_events.specs.Events.{events_of, number_of, is_enter, is_leave, has_leave, EntersFirst, LeavesLast, count_entered, count_in, is_full_after}
use Rattle.room_events.specs.Legal.{CanHappen, room_after, Happens, AllHappen, Legal, state_of}
use Rattle.room_events.specs.declared.room_event.RoomEvent.{RoomEvent}
use Rattle.room_events.specs.declared.room_event.RoomEvent.TheVariants.{Enter, Message, Drain, Leave}
use Rattle.room_events.proofs.CallLemmas.{there, message_receives}
use Rattle.rooms_val.proofs.Truths.{mapped, some_there}
use Rattle.room_events.proofs.HereLemmas.{here, is_here, with_here, received_later, given_here, IsStill, left_here, entered_here, there_here, here_there, here_gone}
use Rattle.room_events.proofs.RunLemmas.{here_after, Fits, Runs, own_after, OwnRuns, runs_own, none_own, enters_first, leaves_last, there_own, gone_own, count_all, count_true, count_there, count_map}

module _ (schemas : Schemas) where
  appended : (room : Room) (events : List RoomEvent) (event : RoomEvent) (after : Room) → AllHappen schemas room events
      → Happens schemas (fold (room_after schemas) room events) event after → AllHappen schemas room (events ++ event ∷ [])
  appended room [] event after all one = (after, one, tt)
  appended room (x ∷ xs) event after all one =
      (all.0, all.1, appended all.0 xs event after all.2 (subst (λ r. Happens schemas (fold (room_after schemas) r xs) event after) all.1.1 one))

  begun : (room : Room) (events more : List RoomEvent) → AllHappen schemas room (events ++ more) → AllHappen schemas room events
  begun room [] more all = tt
  begun room (x ∷ xs) more all = (all.0, all.1, begun all.0 xs more all.2)

  pub begins : (last : ℕ) → Legal schemas last [] × (state_of schemas last [] ≡ new_room last)
  unfolding Legal state_of
  begins last = (tt, refl)

  pub goes_on : (last : ℕ) (events : List RoomEvent) (event : RoomEvent) (after : Room) → Legal schemas last events → Happens schemas (state_of schemas last events) event after
      → Legal schemas last (events ++ event ∷ []) × (state_of schemas last (events ++ event ∷ []) ≡ after)
  unfolding Legal state_of
  goes_on last events event after legal one =
      (appended (new_room last) events event after legal one, fold-append (room_after schemas) (new_room last) events (event ∷ []) ∙ one.1)

  pub before : (last : ℕ) (events more : List RoomEvent) → Legal schemas last (events ++ more) → Legal schemas last events
  unfolding Legal
  before last events more legal = begun (new_room last) events more legal

  -- an event in a legal list can happen in the room that those before it make, which are legal
  split : (room : Room) (events more : List RoomEvent) (event : RoomEvent) → AllHappen schemas room (events ++ event ∷ more) → CanHappen schemas (fold (room_after schemas) room events) event
  split room [] more event all = all.1.0
  split room (x ∷ xs) more event all = subst (λ r. CanHappen schemas (fold (room_after schemas) r xs) event) (sym all.1.1) (split all.0 xs more event all.2)

  pub middle : (last : ℕ) (events more : List RoomEvent) (event : RoomEvent) → Legal schemas last (events ++ event ∷ more)
      → Legal schemas last events × CanHappen schemas (state_of schemas last events) event
  unfolding Legal state_of
  middle last events more event legal = (begun (new_room last) events (event ∷ more) legal, split (new_room last) events more event legal)

  pub happened : (last : ℕ) (events more : List RoomEvent) (event : RoomEvent) → Legal schemas last (events ++ event ∷ more)
      → Happens schemas (state_of schemas last events) event (state_of schemas last (events ++ event ∷ []))
  unfolding Legal state_of
  happened last events more event legal =
      (split (new_room last) events more event legal, sym (fold-append (room_after schemas) (new_room last) events (event ∷ [])))

  -- calls make the room after an event of one that calls made
  pub reached : (room : Room) (event : RoomEvent) (after : Room) → Reachable schemas room → Happens schemas room event after → Reachable schemas after
  reached room (Enter number readonly) after reach one =
      let takes = ap (λ b. cond b None (Some (after_enter readonly room))) one.0.0 in
      subst (Reachable schemas) one.1 (entered readonly room (after_enter readonly room) reach takes)
  reached room (Message number said reply) after reach one =
      let h = mapped (λ replied. replied.reply) (after_message schemas room number said) reply one.0.1 in
      subst (Reachable schemas) (sym (ap (λ o. option_map_or (λ replied. replied.room) o room) h.1) ∙ one.1) (received number said room h.0 reach one.0.0 h.1)
  reached room (Drain number out) after reach one =
      elim (next_for schemas room number) as (λ o. next_for schemas room number ≡ o → option_map_or (λ given. after_drain room number given) o room ≡ after → Reachable schemas after) [
        | None ↦ λ is same. subst (Reachable schemas) same reach
        | Some given ↦ λ is same. subst (Reachable schemas) same (drained number given room reach is)
      ] refl one.1
  reached room (Leave number) after reach one =
      let h = some_there (session_at number room) one.0 in
      let leaves = ap (option_map (λ session. leave number session room)) h.1 in
      subst (Reachable schemas) (sym (ap (λ o. unwrap_or o room) leaves) ∙ one.1) (left number room (leave number h.0 room) reach leaves)

  all_reached : (room : Room) (events : List RoomEvent) → Reachable schemas room → AllHappen schemas room events → Reachable schemas (fold (room_after schemas) room events)
  all_reached room [] reach all = reach
  all_reached room (event ∷ events) reach all =
      subst (λ r. Reachable schemas (fold (room_after schemas) r events)) (sym all.1.1) (all_reached all.0 events (reached room event all.0 reach all.1) all.2)

  pub is_reachable : (last : ℕ) (events : List RoomEvent) → Legal schemas last events → Reachable schemas (state_of schemas last events)
  unfolding Legal state_of
  is_reachable last events legal = all_reached (new_room last) events (from_beginning (new_room last) (anew last)) legal

  -- who is in a room after an event
  happens_here : (room : Room) (event : RoomEvent) (after : Room) → Happens schemas room event after → Fits (here room) event × (here after ≡ here_after (here room) event)
  happens_here room (Enter number readonly) after one =
      (one.0.1 ∙ sym (length-map room.sessions is_here), ap here (sym one.1) ∙ entered_here readonly room)
  happens_here room (Message number said reply) after one =
      let h = mapped (λ replied. replied.reply) (after_message schemas room number said) reply one.0.1 in
      let k = message_receives schemas room number said h.0 h.1 in
      let same : h.0.room ≡ after = sym (ap (λ o. option_map_or (λ replied. replied.room) o room) h.1) ∙ one.1 in (
        there_here room number k.0 k.1,
        ap here (sym same) ∙ (received_later schemas room number k.0 k.1.at k.1.stays said h.0.room k.2).in_it,
      )
  happens_here room (Drain number out) after one =
      let h = some_there (session_at number room) one.0.0 in
      let it = there room number h.0 h.1 in
      let next : next_for schemas room number ≡ next_in schemas room number h.0 h.0.phase = ap (option_and_then (λ session. next_in schemas room number session session.phase)) h.1 in
      let still = given_here schemas room number h.0 it.at it.stays h.0.phase refl in (
        there_here room number h.0 it,
        elim (next_in schemas room number h.0 h.0.phase) as (λ o. next_for schemas room number ≡ o → IsStill schemas room number h.0 it.at it.stays o → here after ≡ here room) [
          | None ↦ λ is same. ap here (sym (sym (ap (λ o. option_map_or (λ given. after_drain room number given) o room) is) ∙ one.1))
          | Some given ↦ λ is same.
              ap here (sym (sym (ap (λ o. option_map_or (λ given. after_drain room number given) o room) is) ∙ one.1)) ∙ with_here room number h.0 given.after it.at same
        ] next still,
      )
  happens_here room (Leave number) after one =
      let h = some_there (session_at number room) one.0 in
      let it = there room number h.0 h.1 in
      let leaves = ap (option_map (λ session. leave number session room)) h.1 in
      let same : leave number h.0 room ≡ after = sym (ap (λ o. unwrap_or o room) leaves) ∙ one.1 in
      (there_here room number h.0 it, ap here (sym same) ∙ left_here schemas room number h.0 it.at it.stays)

  all_here : (room : Room) (events : List RoomEvent) → AllHappen schemas room events
      → Runs (here room) events × (here (fold (room_after schemas) room events) ≡ fold here_after (here room) events)
  all_here room [] all = (tt, refl)
  all_here room (event ∷ events) all =
      let one = happens_here room event all.0 all.1 in
      let rest = all_here all.0 events all.2 in (
        (one.0, subst (λ xs. Runs xs events) one.1 rest.0),
        ap (λ r. here (fold (room_after schemas) r events)) all.1.1 ∙ rest.1 ∙ ap (λ xs. fold here_after xs events) one.1,
      )

  legal_here : (last : ℕ) (events : List RoomEvent) → Legal schemas last events → Runs [] events × (here (state_of schemas last events) ≡ fold here_after [] events)
  unfolding Legal state_of
  legal_here last events legal = all_here (new_room last) events legal

  legal_own : (last : ℕ) (events : List RoomEvent) (n : ℕ) → Legal schemas last events
      → OwnRuns None (events_of n events) × (slice_get (here (state_of schemas last events)) n ≡ fold own_after None (events_of n events))
  legal_own last events n legal =
      let h = legal_here last events legal in
      let k = runs_own n [] events h.0 in
      (k.0, ap (λ xs. slice_get xs n) h.1 ∙ k.1)

  pub is_in : (last : ℕ) (events mine : List RoomEvent) (n : ℕ) → Legal schemas last events → events_of n events ≡ mine → number_of mine ≡ Some n → has_leave mine ≡ false
      → (session : Session) × (session_at n (state_of schemas last events) ≡ Some session)
  is_in last events mine n legal of_ own stays =
      let h = legal_own last events n legal in
      let runs : OwnRuns None mine = subst (OwnRuns None) of_ h.0 in
      here_there (state_of schemas last events) n (h.1 ∙ ap (fold own_after None) of_ ∙ there_own mine n runs own stays)

  pub is_gone : (last : ℕ) (events : List RoomEvent) (n : ℕ) → Legal schemas last events → has_leave (events_of n events) ≡ true
      → session_at n (state_of schemas last events) ≡ None
  is_gone last events n legal leaves =
      let h = legal_own last events n legal in
      here_gone (state_of schemas last events) n (h.1 ∙ gone_own None (events_of n events) h.0 leaves)

  pub none_yet : (last : ℕ) (events : List RoomEvent) → Legal schemas last events → events_of (length (state_of schemas last events).sessions) events ≡ []
  none_yet last events legal =
      let room = state_of schemas last events in
      let n = length room.sessions in
      let h = legal_own last events n legal in
      let size : length (here room) ≡ n = length-map room.sessions is_here in
      none_own (events_of n events) h.0 (sym h.1 ∙ slice_get_past (here room) n (omega arith))

  pub enters_once : (last : ℕ) (events : List RoomEvent) (n : ℕ) → Legal schemas last events → EntersFirst (events_of n events)
  enters_once last events n legal = enters_first (events_of n events) (legal_own last events n legal).0

  pub nothing_after_leave : (last : ℕ) (events : List RoomEvent) (n : ℕ) → Legal schemas last events → LeavesLast (events_of n events)
  nothing_after_leave last events n legal = leaves_last None (events_of n events) (legal_own last events n legal).0

  -- how many sessions have entered by a legal list, how many of them are in the room, and how many have left
  record Counts (last : ℕ) (events : List RoomEvent) : Type 0 where
    entered_all : length (state_of schemas last events).sessions ≡ count_entered events
    in_now : count_here (state_of schemas last events) + count_by is_leave events ≡ count_entered events

  counts : (last : ℕ) (events : List RoomEvent) → Legal schemas last events → Counts last events
  counts last events legal =
      let room = state_of schemas last events in
      let h = legal_here last events legal in
      let all : length (here room) ≡ length (fold here_after [] events) = ap length h.1 in
      let counted : length (fold here_after [] events) ≡ 0 + count_by is_enter events = count_all [] events h.0 in
      let size : length (here room) ≡ length room.sessions = length-map room.sessions is_here in
      let in_all : count_true (here room) ≡ count_true (fold here_after [] events) = ap count_true h.1 in
      let sums : count_true (fold here_after [] events) + count_by is_leave events ≡ 0 + count_by is_enter events = count_there [] events h.0 in
      let mapped_all : count_true (here room) ≡ count_here room = count_map is_here room.sessions in
      record { entered_all = omega arith; in_now = omega arith }

  pub entered_so : (last : ℕ) (events : List RoomEvent) → Legal schemas last events → length (state_of schemas last events).sessions ≡ count_entered events
  entered_so last events legal = (counts last events legal).entered_all

  pub stay : (last : ℕ) (events : List RoomEvent) → Legal schemas last events
      → count_here (state_of schemas last events) + count_by is_leave events ≡ count_entered events
  stay last events legal = (counts last events legal).in_now

  pub full_shows : (last : ℕ) (events : List RoomEvent) → Legal schemas last events → is_full (state_of schemas last events) ≡ is_full_after events
  full_shows last events legal =
      let room = state_of schemas last events in
      let k = counts last events legal in
      let in_now : count_here room ≡ count_in events = let h = k.in_now in omega arith in
      ap (λ k. nat_le MOST_SESSIONS k || nat_le MOST_ENTERED (length room.sessions)) in_now
      ∙ ap (λ k. nat_le MOST_SESSIONS (count_in events) || nat_le MOST_ENTERED k) k.entered_all
