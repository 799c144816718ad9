-- What is in the slot stays right by each call of the room.
use Rattle.std.proofs.Common.{◌≡◌, ℕ, ◌+◌, ◌≤◌, ◌<◌, Bool, true, false, cond, List, [], ◌∷◌, ◌++◌, length, count_by, Option, Some, None, refl, sym, ap, ◌∙◌, subst, subst₂, arith, length-append}
use Rattle.std.specs.Prelude.{option_map, is_some}
use Rattle.std.specs.Option.{option_map_or, unwrap_or}
use Rattle.std.proofs.lemmas.List.Sums.{sum_by_push}
use Rattle.room_model.specs.Schemas.{Schemas}
use Rattle.room_model.specs.Rooms as model
use Rattle.room_model.specs.Rooms.{new_room, is_full, enter, after_enter, session_at, Replied, after_message, Given, next_for, after_drain, after_leave}
use Rattle.room_model.specs.Reachable.{IsRising}
use Rattle.room_model.specs.declared.handled.Handled.{Handled}
use Rattle.room_schemas.specs.Decided.{decided}
use Rattle.room_events.specs.Events.{events_of, number_of, has_leave, is_enter, is_leave, count_entered}
use Rattle.room_events.specs.Legal.{Happens, Legal, state_of}
use Rattle.room_events.specs.declared.room_event.RoomEvent.{RoomEvent}
use Rattle.room_events.specs.declared.room_event.RoomEvent.TheVariants.{Enter, Message, Drain, Leave}
use Rattle.room_events.proofs.LegalLemmas.{begins, goes_on, is_in, none_yet, stay}
use Rattle.room_run.specs.Held.{IsInside, Carries}
use Rattle.sync_msgs.specs.declared.client_message.ClientMessage.{ClientMessage}
use Rattle.sync_msgs.specs.declared.out.Out.{Out}
use Rattle.sync_room.specs.Standing.{Stands, Replies, Drains, Leaves, tree_of}
use Rattle.sync_room.specs.declared.room.Room.{Room}
use Rattle.rooms_val.proofs.Truths.{none_some}

is_free : (b : Bool) (room : model.Room) → cond b None (Some room) ≡ Some room → b ≡ false
is_free true room e = absurd (cc)
is_free false room e = refl

-- each call of the room is an event that happens
module _ (schemas : Schemas) (state : model.Room) (number : ℕ) where
  pub message_happens : (said : ClientMessage) (reply : Handled) (room : Room) (o : Option Replied) → IsRising said → after_message schemas state number said ≡ o → Replies o reply room
      → (after : model.Room) × Happens schemas state (Message number said reply) after × Stands after room
  message_happens said reply room None rises is replies = absurd replies
  message_happens said reply room (Some replied) rises is replies = (
    replied.room,
    ((rises, ap (option_map (λ r. r.reply)) is ∙ ap Some (sym replies.0)), ap (λ o. option_map_or (λ r. r.room) o state) is),
    replies.1,
  )

  pub drain_happens : (session : model.Session) (out : Out) (room : Room) (o : Option Given) → session_at number state ≡ Some session → next_for schemas state number ≡ o → Drains state number o (Some out) room
      → (after : model.Room) × Happens schemas state (Drain number (Some out)) after × Stands after room
  drain_happens session out room None here is drains = absurd (none_some out (sym drains.0))
  drain_happens session out room (Some given) here is drains = (
    after_drain state number given,
    ((ap is_some here, ap (option_map (λ g. g.out)) is ∙ sym drains.0), ap (λ o. option_map_or (λ g. after_drain state number g) o state) is),
    drains.1,
  )

  pub nothing_drained : (room : Room) (o : Option Given) → next_for schemas state number ≡ o → Drains state number o None room → (next_for schemas state number ≡ None) × Stands state room
  nothing_drained room None is drains = (is, drains.1)
  nothing_drained room (Some given) is drains = absurd (none_some given.out drains.0)

  nothing_happens : (session : model.Session) → session_at number state ≡ Some session → next_for schemas state number ≡ None → Happens schemas state (Drain number None) state
  nothing_happens session here is = ((ap is_some here, ap (option_map (λ g. g.out)) is), ap (λ o. option_map_or (λ g. after_drain state number g) o state) is)

  leave_happens : (session : model.Session) → session_at number state ≡ Some session → Happens schemas state (Leave number) (model.leave number session state)
  leave_happens session here = (ap is_some here, ap (λ o. unwrap_or (option_map (λ s. model.leave number s state) o) state) here)

module _ (schemas : Schemas) (last : ℕ) where
  pub opens : (room : Room) (capacity : ℕ) → decided (tree_of room) ≡ schemas → Stands (new_room last) room → Carries schemas last room [] 0 capacity
  opens room capacity decides stands = let h = begins schemas last in record {
    legal = h.0;
    decides = decides;
    stands = subst (λ s. Stands s room) (sym h.1) stands;
    counts = refl;
    place = omega arith;
  }

  module _ (room : Room) (pen : List RoomEvent) (inside capacity : ℕ) (carries : Carries schemas last room pen inside capacity) where
    abbrev state : model.Room
    state = state_of schemas last pen

    -- the session of a number that is inside is in the room
    pub there : (number : ℕ) → IsInside number pen → (session : model.Session) × (session_at number state ≡ Some session)
    there number is = is_in schemas last pen (events_of number pen) number carries.legal refl is.0 is.1

    -- the next number has no event
    pub unused : (number : ℕ) → number ≡ length state.sessions → events_of number pen ≡ []
    unused number is = ap (λ n. events_of n pen) is ∙ none_yet schemas last pen carries.legal

    -- an event happens in the room
    goes : (now : Room) (e : RoomEvent) (after : model.Room) (within place : ℕ) → Happens schemas state e after → Stands after now → tree_of now ≡ tree_of room
        → within + cond (is_leave e) 1 0 ≡ inside + cond (is_enter e) 1 0 → length pen + (within + 1) ≤ place → Carries schemas last now (pen ++ e ∷ []) within place
    goes now e after within place happens stands same balance fits =
        let h = goes_on schemas last pen e after carries.legal happens in
        let leaves : count_by is_leave (pen ++ e ∷ []) ≡ count_by is_leave pen + cond (is_leave e) 1 0 = sum_by_push (λ x. cond (is_leave x) 1 0) pen e in
        let enters : count_by is_enter (pen ++ e ∷ []) ≡ count_by is_enter pen + cond (is_enter e) 1 0 = sum_by_push (λ x. cond (is_enter x) 1 0) pen e in
        let counts : inside + count_by is_leave pen ≡ count_by is_enter pen = carries.counts in
        let long : length (pen ++ e ∷ []) ≡ length pen + 1 = length-append pen (e ∷ []) in record {
          legal = h.0;
          decides = ap decided same ∙ carries.decides;
          stands = subst (λ s. Stands s now) (sym h.1) stands;
          counts = omega (arith, leaves, enters, counts, balance);
          place = omega (arith, long, fits);
        }

    -- nothing happens in the room, and the pen has no less place
    pub stays : (now : Room) (place : ℕ) → ((s : model.Room) → Stands s room → Stands s now) → tree_of now ≡ tree_of room → capacity ≤ place → Carries schemas last now pen inside place
    stays now place stands same more = record {
      legal = carries.legal;
      decides = ap decided same ∙ carries.decides;
      stands = stands state carries.stands;
      counts = carries.counts;
      place = let fits = carries.place in omega arith;
    }

    pub entered : (now : Room) (number : ℕ) (readonly : Bool) (place : ℕ)
        → ((s : model.Room) → Stands s room → (enter readonly s ≡ Some (after_enter readonly s)) × Stands (after_enter readonly s) now)
        → number ≡ length state.sessions → tree_of now ≡ tree_of room → length pen + (inside + 2) ≤ place → Carries schemas last now (pen ++ Enter number readonly ∷ []) (inside + 1) place
    entered now number readonly place enters is same fits =
        let h = enters state carries.stands in
        goes now (Enter number readonly) (after_enter readonly state) (inside + 1) place ((is_free (is_full state) (after_enter readonly state) h.0, is), refl) h.1 same (omega arith) (omega arith)

    pub said : (now : Room) (number id : ℕ) (message : ClientMessage) (reply : Handled) (place : ℕ) → id ≡ number → IsRising message
        → ((s : model.Room) → Stands s room → Replies (after_message (decided (tree_of room)) s id message) reply now)
        → tree_of now ≡ tree_of room → length pen + (inside + 1) ≤ place → Carries schemas last now (pen ++ Message number message reply ∷ []) inside place
    said now number id message reply place is rises replies same fits =
        let replies' = subst₂ (λ s n. Replies (after_message s state n message) reply now) carries.decides is (replies state carries.stands) in
        let h = message_happens schemas state number message reply now (after_message schemas state number message) rises refl replies' in
        goes now (Message number message reply) h.0 inside place h.1 h.2 same (omega arith) (omega arith)

    pub given : (now : Room) (number id : ℕ) (out : Out) (place : ℕ) → IsInside number pen → id ≡ number
        → ((s : model.Room) → Stands s room → Drains s id (next_for (decided (tree_of room)) s id) (Some out) now)
        → tree_of now ≡ tree_of room → length pen + (inside + 1) ≤ place → Carries schemas last now (pen ++ Drain number (Some out) ∷ []) inside place
    given now number id out place is of drains same fits =
        let here = there number is in
        let drains' = subst₂ (λ s n. Drains state n (next_for s state n) (Some out) now) carries.decides of (drains state carries.stands) in
        let h = drain_happens schemas state number here.0 out now (next_for schemas state number) here.1 refl drains' in
        goes now (Drain number (Some out)) h.0 inside place h.1 h.2 same (omega arith) (omega arith)

    pub drained : (now : Room) (number id : ℕ) → id ≡ number → ((s : model.Room) → Stands s room → Drains s id (next_for (decided (tree_of room)) s id) None now)
        → (next_for schemas state number ≡ None) × Stands state now
    drained now number id is drains =
        let drains' = subst₂ (λ s n. Drains state n (next_for s state n) None now) carries.decides is (drains state carries.stands) in
        nothing_drained schemas state number now (next_for schemas state number) refl drains'

    -- there was nothing to give, and the pen has no less place
    pub stays_drained : (now : Room) (number id place : ℕ) → id ≡ number → ((s : model.Room) → Stands s room → Drains s id (next_for (decided (tree_of room)) s id) None now)
        → tree_of now ≡ tree_of room → capacity ≤ place → Carries schemas last now pen inside place
    stays_drained now number id place is drains same more = record {
      legal = carries.legal;
      decides = ap decided same ∙ carries.decides;
      stands = (drained now number id is drains).1;
      counts = carries.counts;
      place = let fits = carries.place in omega arith;
    }

    pub nothing : (number place : ℕ) → IsInside number pen → next_for schemas state number ≡ None → length pen + (inside + 1) ≤ place → Carries schemas last room (pen ++ Drain number None ∷ []) inside place
    nothing number place is none fits =
        let here = there number is in
        goes room (Drain number None) state inside place (nothing_happens schemas state number here.0 here.1 none) carries.stands refl (omega arith) (omega arith)

    -- and once that is noted, there is still nothing
    pub still_nothing : (number : ℕ) → IsInside number pen → next_for schemas state number ≡ None → next_for schemas (state_of schemas last (pen ++ Drain number None ∷ [])) number ≡ None
    still_nothing number is none =
        let here = there number is in
        let h = goes_on schemas last pen (Drain number None) state carries.legal (nothing_happens schemas state number here.0 here.1 none) in
        subst (λ s. next_for schemas s number ≡ None) (sym h.1) none

    -- who is inside is counted
    pub someone : (number : ℕ) → IsInside number pen → 0 < inside
    someone number is =
        let here = there number is in
        let h = goes_on schemas last pen (Leave number) (model.leave number here.0 state) carries.legal (leave_happens schemas state number here.0 here.1) in
        let leaves : count_by is_leave (pen ++ Leave number ∷ []) ≡ count_by is_leave pen + 1 = sum_by_push (λ x. cond (is_leave x) 1 0) pen (Leave number) in
        let enters : count_by is_enter (pen ++ Leave number ∷ []) ≡ count_by is_enter pen + 0 = sum_by_push (λ x. cond (is_enter x) 1 0) pen (Leave number) in
        let all = stay schemas last (pen ++ Leave number ∷ []) h.0 in
        let counts : inside + count_by is_leave pen ≡ count_by is_enter pen = carries.counts in
        omega (arith, leaves, enters, all, counts)

    pub left : (now : Room) (number id within : ℕ) → IsInside number pen → id ≡ number → ((s : model.Room) → Stands s room → Leaves (after_leave s id) now) → tree_of now ≡ tree_of room → within + 1 ≡ inside
        → Carries schemas last now (pen ++ Leave number ∷ []) within capacity
    left now number id within is of leaves same one =
        let here = there number is in
        let fits = carries.place in
        let leaves' = subst (λ n. Leaves (after_leave state n) now) of (leaves state carries.stands) in
        let stands = subst (λ o. Leaves (option_map (λ s. model.leave number s state) o) now) here.1 leaves' in
        goes now (Leave number) (model.leave number here.0 state) within capacity (leave_happens schemas state number here.0 here.1) stands same (omega arith) (omega arith)
