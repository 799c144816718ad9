-- Up to which clock sessions are told by a legal list.
use Rattle.std.proofs.Common.{◌≡◌, inl, inr, ℕ, suc, ◌+◌, ◌-◌, ◌<◌, ◌≤◌, nat_lt, nat_le, ◌==◌, ℤ, pos, Bool, true, false, cond, List, [], ◌∷◌, ◌++◌, fold, length, slice_get, Option, Some, None, option_map, option_and_then, refl, sym, ap, subst, ◌∙◌, arith}
use Rattle.std.specs.Option.{option_map_or, unwrap_or}
use Rattle.std.proofs.Math.ListN.{length-append}
use Rattle.std.proofs.lemmas.Bool.Decides.{nat_tests}
use Rattle.std.proofs.lemmas.List.Sums.{fold-append}
use Rattle.std.proofs.lemmas.Option.{same_Some}
use Rattle.room_model.specs.Schemas.{Schemas, Plan, Member}
use Rattle.room_model.specs.Histories.{History, records_of, above}
use Rattle.room_model.specs.Messages.{result_event, patch_event, event_by, event_of, events_after, bare_result, bare_results, catch_up, updates}
use Rattle.room_model.specs.Rooms.{Phase, new, asked, live, ended, gone, Session, Room, new_room, session_at, after_message, leave, Given, next_in, next_for, after_drain}
use Rattle.room_model.specs.declared.history.Author.{Author}
use Rattle.room_model.specs.declared.history.Entry.{Entry}
use Rattle.room_model.specs.declared.limits.TheConstants.{MOST_TOLD}
use Rattle.room_model.proofs.CallLemmas.{member_of}
use Rattle.room_model.proofs.ClosingLemmas.{by_number}
use Rattle.room_events.specs.Events.{session_of, events_of}
use Rattle.room_events.specs.Legal.{room_after, Happens, AllHappen, Legal, state_of}
use Rattle.room_events.specs.Told.{clock_of, told_by, told_after, told_up_to, EachNext, AllAt, GoOnFrom}
use Rattle.room_events.specs.declared.room_event.RoomEvent.{RoomEvent}
use Rattle.room_events.specs.declared.room_event.RoomEvent.TheVariants.{Enter, Message, Drain, Leave}
use Rattle.room_events.proofs.HereLemmas.{live_of, live_at, live_set, live_elsewhere, live_now, received_later, left_lives, entered_lives}
use Rattle.room_events.proofs.CallLemmas.{there, message_receives}
use Rattle.rooms_val.proofs.Truths.{mapped, some_there}
use Rattle.room_events.proofs.LegalLemmas.{middle}
use Rattle.sync_msgs.specs.declared.data_event.Action.TheVariants.{Rebase}
use Rattle.sync_msgs.specs.declared.data_event.DataEvent.{DataEvent}
use Rattle.sync_msgs.specs.declared.data_event.DataEvent.TheVariants.{Patch, PushResult}
use Rattle.sync_msgs.specs.declared.out.Out.TheVariants as out
use Rattle.sync_msgs.specs.declared.server_message.ServerMessage.TheVariants as reply

-- the clocks of events
event_clock : (schemas : Schemas) (member : Member) (entry : Entry) (history : History) → clock_of (event_of schemas member entry history) ≡ pos (suc (length history))
event_clock schemas member entry history = by_author entry.author
  where
    by_author : (o : Option Author) → clock_of (event_by schemas member (records_of (entry ∷ history)) (suc (length history)) entry.diff o) ≡ pos (suc (length history))
    by_author None = refl
    by_author (Some author) = let clock = suc (length history) in let m = records_of (entry ∷ history) in elim (author.session == member.session) as (λ b. clock_of (cond b (result_event schemas member m clock author) (patch_event schemas member m clock entry.diff)) ≡ pos clock) [ true ↦ refl | false ↦ refl ]

next_added : (clock : ℕ) (events : List DataEvent) (event : DataEvent) → EachNext clock events → clock_of event ≡ pos (suc (clock + length events)) → EachNext clock (events ++ event ∷ [])
next_added clock [] event all is = (is ∙ ap (λ k. pos (suc k)) (let e : clock + length {A = DataEvent} [] ≡ clock = omega arith in e), tt)
next_added clock (x ∷ xs) event all is = (all.0, next_added (suc clock) xs event all.1 (is ∙ ap (λ k. pos (suc k)) (omega arith)))

-- an event for each entry above the sent clock, at the next clocks
each_next : (schemas : Schemas) (member : Member) (sent : ℕ) (history : History) → (length (events_after schemas member sent history) ≡ length history - sent) × EachNext sent (events_after schemas member sent history)
each_next schemas member sent [] = (omega arith, tt)
each_next schemas member sent (entry ∷ history) =
    let events = events_after schemas member sent history in
    let event = event_of schemas member entry history in
    let rest = each_next schemas member sent history in
    elim (nat_lt (length history) sent) as (λ b. nat_lt (length history) sent ≡ b
    → (length (cond b [] (events ++ event ∷ [])) ≡ suc (length history) - sent) × EachNext sent (cond b [] (events ++ event ∷ []))) [
      | true ↦ λ is. (grind (arith, nat_tests), tt)
      | false ↦ λ is.
          let more = length-append events (event ∷ []) in
          let least : sent ≤ length history = grind (arith, nat_tests) in
          let size : sent + length events ≡ length history = omega arith in
          (omega arith, next_added sent events event rest.1 (event_clock schemas member entry history ∙ ap (λ k. pos (suc k)) (sym size)))
    ] refl

-- the last of them at the clock
last_clock : (schemas : Schemas) (member : Member) (sent : ℕ) (history : History) (told : Option ℤ) → sent < length history
    → fold (λ before event. Some (clock_of event)) told (events_after schemas member sent history) ≡ Some (pos (length history))
last_clock schemas member sent [] told less = absurd (omega arith)
last_clock schemas member sent (entry ∷ history) told less =
    let events = events_after schemas member sent history in
    let event = event_of schemas member entry history in
    let step : Option ℤ → DataEvent → Option ℤ = λ before event. Some (clock_of event) in
    elim (nat_lt (length history) sent) as (λ b. nat_lt (length history) sent ≡ b → fold step told (cond b [] (events ++ event ∷ [])) ≡ Some (pos (suc (length history)))) [
      | true ↦ λ is. absurd (grind (arith, nat_tests))
      | false ↦ λ is. fold-append step told events (event ∷ []) ∙ ap Some (event_clock schemas member entry history)
    ] refl

all_added : (clock : ℕ) (events more : List DataEvent) → AllAt clock events → AllAt clock more → AllAt clock (events ++ more)
all_added clock [] more all rest = rest
all_added clock (x ∷ xs) more all rest = (all.0, all_added clock xs more all.1 rest)

result_at : (schemas : Schemas) (member : Member) (clock : ℕ) (o : Option Author) → AllAt clock (bare_result schemas member clock o)
result_at schemas member clock None = tt
result_at schemas member clock (Some author) = elim (author.session == member.session) as (λ b. AllAt clock (cond b (PushResult author.client_clock (pos clock) (Rebase []) ∷ []) [])) [ true ↦ (refl, tt) | false ↦ tt ]

results_at : (schemas : Schemas) (member : Member) (clock : ℕ) (history : History) → AllAt clock (bare_results schemas member clock history)
results_at schemas member clock [] = tt
results_at schemas member clock (entry ∷ history) = all_added clock (bare_results schemas member clock history) (bare_result schemas member clock entry.author) (results_at schemas member clock history) (result_at schemas member clock entry.author)

module _ (schemas : Schemas) (member : Member) (sent : ℕ) (history : History) where
  -- updates come to the clock
  pub updates_told : (told : Option ℤ) → sent < length history → told_by told (Some (out.Message (updates schemas member sent history))) ≡ Some (pos (length history))
  updates_told told less =
      let step : Option ℤ → DataEvent → Option ℤ = λ before event. Some (clock_of event) in
      let results = bare_results schemas member (length history) (above sent history) in
      elim (nat_le (length history - sent) MOST_TOLD) as (λ b. fold step told (cond b (events_after schemas member sent history) (catch_up schemas member sent history)) ≡ Some (pos (length history))) [
        | true ↦ last_clock schemas member sent history told less
        | false ↦ fold-append step told results (Patch _ (pos (length history)) ∷ [])
      ]

  -- and go on from the sent clock
  updates_go_on : (events : List DataEvent) → updates schemas member sent history ≡ reply.Data events → GoOnFrom sent events
  updates_go_on events is =
      let results = bare_results schemas member (length history) (above sent history) in
      elim (nat_le (length history - sent) MOST_TOLD) as (λ b. nat_le (length history - sent) MOST_TOLD ≡ b
      → reply.Data (cond b (events_after schemas member sent history) (catch_up schemas member sent history)) ≡ reply.Data events → GoOnFrom sent events) [
        | true ↦ λ few is. let same : events_after schemas member sent history ≡ events = cc in inl (subst (EachNext sent) same (each_next schemas member sent history).1)
        | false ↦ λ few is.
            let same : catch_up schemas member sent history ≡ events = cc in
            let far : sent + MOST_TOLD < length history = grind (arith, nat_tests) in
            inr (length history, far, subst (AllAt (length history)) same (all_added (length history) results (Patch _ (pos (length history)) ∷ []) (results_at schemas member (length history) (above sent history)) (refl, tt)))
      ] refl is

-- a clock is that up to which a live session was told
abbrev IsTold : Option ℤ → Option (ℕ × Plan) → Type 0
IsTold told o = (x : ℕ × Plan) → o ≡ Some x → told ≡ Some (pos x.0)

module _ (schemas : Schemas) (room : Room) (n : ℕ) (s : Session) (told : Option ℤ) (so : IsTold told (live_of s.phase)) where
  abbrev GivesTold : Option Given → Type 0
  GivesTold None = Unit {0}
  GivesTold (Some given) = IsTold (told_by told (Some given.out)) (live_of given.after.phase)

  told_if : (b : Bool) (given : Given) (o : Option Given) → (b ≡ true → GivesTold (Some given)) → GivesTold o → GivesTold (cond b (Some given) o)
  told_if true given o h k = h refl
  told_if false given o h k = k

  given_told : (phase : Phase) → s.phase ≡ phase → GivesTold (next_in schemas room n s phase)
  given_told new is = told_if (nat_lt 0 s.pings) _ None (λ some. so) tt
  given_told (asked request reached plan) is = λ x same. ap (λ (y : ℕ × Plan). Some (pos y.0)) (same_Some (length room.history, plan) x same)
  given_told (live sent plan) is =
      told_if (nat_lt 0 s.pings) _ _ (λ some. so)
      (told_if (nat_lt sent (length room.history)) _ None
      (λ some x same.
      updates_told schemas (member_of n s plan) sent room.history told (grind (arith, nat_tests))
      ∙ ap (λ (y : ℕ × Plan). Some (pos y.0)) (same_Some (length room.history, plan) x same))
      tt)
  given_told (ended reason true) is = tt
  given_told (ended reason false) is = λ x same. absurd (cc)
  given_told gone is = tt

module _ (schemas : Schemas) (n : ℕ) where
  -- what one session was told once an event happened, be it its own or not
  abbrev told_now : Option ℤ → RoomEvent → Option ℤ
  told_now told event = cond (session_of event == n) (told_after told event) told

  told_kept : (told : Option ℤ) (event : RoomEvent) (o : Option (ℕ × Plan)) → told_after told event ≡ told → IsTold told o → IsTold (told_now told event) o
  told_kept told event o same h = elim (session_of event == n) as (λ b. IsTold (cond b (told_after told event) told) o) [ true ↦ subst (λ t. IsTold t o) (sym same) h | false ↦ h ]

  happens_told : (told : Option ℤ) (room : Room) (event : RoomEvent) (after : Room) → Happens schemas room event after → IsTold told (live_at n room) → IsTold (told_now told event) (live_at n after)
  happens_told told room (Enter number readonly) after one so =
      told_kept told (Enter number readonly) (live_at n after) refl (λ x is. so x (entered_lives readonly room n x (ap (live_at n) one.1 ∙ is)))
  happens_told told room (Message number said replied) after one so =
      let h = mapped (λ replied. replied.reply) (after_message schemas room number said) replied one.0.1 in
      let k = message_receives schemas room number said h.0 h.1 in
      let same : h.0.room ≡ after = sym (ap (λ o. option_map_or (λ replied. replied.room) o room) h.1) ∙ one.1 in
      told_kept told (Message number said replied) (live_at n after) refl
      (λ x is. so x ((received_later schemas room number k.0 k.1.at k.1.stays said h.0.room k.2).lives n x (ap (live_at n) same ∙ is)))
  happens_told told room (Leave number) after one so =
      let h = some_there (session_at number room) one.0 in
      let it = there room number h.0 h.1 in
      let leaves = ap (option_map (λ session. leave number session room)) h.1 in
      let same : leave number h.0 room ≡ after = sym (ap (λ o. unwrap_or o room) leaves) ∙ one.1 in
      told_kept told (Leave number) (live_at n after) refl (λ x is. so x (left_lives schemas room number h.0 it.at it.stays n x (ap (live_at n) same ∙ is)))
  happens_told told room (Drain number given) after one so =
      let h = some_there (session_at number room) one.0.0 in
      let it = there room number h.0 h.1 in
      let next : next_for schemas room number ≡ next_in schemas room number h.0 h.0.phase = ap (option_and_then (λ session. next_in schemas room number session session.phase)) h.1 in
      by_number (λ b. IsTold (cond b (told_by told given) told) (live_at n after)) number n
      (λ same.
      let mine : IsTold told (live_of h.0.phase) = λ x is. so x (sym (ap (λ k. live_at k room) same) ∙ live_now room number h.0 h.0 it.at ∙ is) in
      elim (next_in schemas room number h.0 h.0.phase) as (λ o. next_for schemas room number ≡ o → GivesTold schemas room number h.0 told mine o → IsTold (told_by told given) (live_at n after)) [
        | None ↦ λ is gives.
            let out : None ≡ given = sym (ap (option_map (λ given. given.out)) is) ∙ one.0.1 in
            let room_is : room ≡ after = sym (ap (λ o. option_map_or (λ given. after_drain room number given) o room) is) ∙ one.1 in
            subst (λ o. IsTold (told_by told o) (live_at n after)) out (λ x live_. so x (ap (live_at n) room_is ∙ live_))
        | Some next ↦ λ is gives.
            let out : Some next.out ≡ given = sym (ap (option_map (λ given. given.out)) is) ∙ one.0.1 in
            let room_is : after_drain room number next ≡ after = sym (ap (λ o. option_map_or (λ given. after_drain room number given) o room) is) ∙ one.1 in
            subst (λ o. IsTold (told_by told o) (live_at n after)) out
            (λ x live_. gives x (sym (live_set room number h.0 next.after it.at) ∙ ap (λ k. live_at k (after_drain room number next)) same ∙ ap (live_at n) room_is ∙ live_))
      ] next (given_told schemas room number h.0 told mine h.0.phase refl))
      (λ apart.
      elim (next_for schemas room number) as (λ o. option_map_or (λ given. after_drain room number given) o room ≡ after → IsTold told (live_at n after)) [
        | None ↦ λ is x live_. so x (ap (live_at n) is ∙ live_)
        | Some next ↦ λ is x live_. so x (sym (live_elsewhere room number h.0 next.after it.at n (λ e. apart (sym e))) ∙ ap (live_at n) is ∙ live_)
      ] one.1)

  all_told : (told : Option ℤ) (room : Room) (events : List RoomEvent) → AllHappen schemas room events → IsTold told (live_at n room)
      → IsTold (fold told_after told (events_of n events)) (live_at n (fold (room_after schemas) room events))
  all_told told room [] all so = so
  all_told told room (event ∷ events) all so =
      let rest = all_told (told_now told event) all.0 events all.2 (happens_told told room event all.0 all.1 so) in
      let end = subst (λ r. IsTold (fold told_after (told_now told event) (events_of n events)) (live_at n (fold (room_after schemas) r events))) (sym all.1.1) rest in
      elim (session_of event == n) as (λ b. IsTold (fold told_after (cond b (told_after told event) told) (events_of n events)) (live_at n (fold (room_after schemas) (room_after schemas room event) events))
      → IsTold (fold told_after told (cond b (event ∷ events_of n events) (events_of n events))) (live_at n (fold (room_after schemas) (room_after schemas room event) events))) [
        | true ↦ λ h. h
        | false ↦ λ h. h
      ] end

module _ (schemas : Schemas) where
  live_told : (last : ℕ) (events : List RoomEvent) (n : ℕ) → Legal schemas last events → IsTold (told_up_to (events_of n events)) (live_at n (state_of schemas last events))
  unfolding Legal state_of
  live_told last events n legal = all_told schemas n None (new_room last) events legal (λ x is. absurd (cc))

  pub sent_told : (last : ℕ) (events : List RoomEvent) (n : ℕ) (session : Session) (clock : ℕ) (plan : Plan) → Legal schemas last events
      → slice_get (state_of schemas last events).sessions n ≡ Some session → session.phase ≡ live clock plan → told_up_to (events_of n events) ≡ Some (pos clock)
  sent_told last events n session clock plan legal at is = live_told last events n legal (clock, plan) (live_now (state_of schemas last events) n session session at ∙ ap live_of is)

  -- who is given updates is live, and they are those after its sent clock
  module _ (room : Room) (n : ℕ) (s : Session) (told : List DataEvent) where
    abbrev TellsLive : Option Given → Type 0
    TellsLive None = Unit {0}
    TellsLive (Some given) = given.out ≡ out.Message (reply.Data told) → (sent : ℕ) × (plan : Plan) × (s.phase ≡ live sent plan) × GoOnFrom sent told

    tells_if : (b : Bool) (given : Given) (o : Option Given) → TellsLive (Some given) → TellsLive o → TellsLive (cond b (Some given) o)
    tells_if true given o h k = h
    tells_if false given o h k = k

    tells_live : (phase : Phase) → s.phase ≡ phase → TellsLive (next_in schemas room n s phase)
    tells_live new is = tells_if (nat_lt 0 s.pings) _ None (λ same. absurd (cc)) tt
    tells_live (asked request reached plan) is = λ same. absurd (cc)
    tells_live (live sent plan) is =
        tells_if (nat_lt 0 s.pings) _ _ (λ same. absurd (cc))
        (tells_if (nat_lt sent (length room.history)) _ None
        (λ same. (sent, plan, is, updates_go_on schemas (member_of n s plan) sent room.history told (let e : updates schemas (member_of n s plan) sent room.history ≡ reply.Data told = cc in e)))
        tt)
    tells_live (ended reason true) is = tt
    tells_live (ended reason false) is = λ same. absurd (cc)
    tells_live gone is = tt

  pub updates_from : (last : ℕ) (before after : List RoomEvent) (n : ℕ) (told : List DataEvent) → Legal schemas last (before ++ Drain n (Some (out.Message (reply.Data told))) ∷ after)
      → (clock : ℕ) × (told_up_to (events_of n before) ≡ Some (pos clock)) × GoOnFrom clock told
  updates_from last before after n told legal =
      let room = state_of schemas last before in
      let m = middle schemas last before after (Drain n (Some (out.Message (reply.Data told)))) legal in
      let h = some_there (session_at n room) m.1.0 in
      let it = there room n h.0 h.1 in
      let given = mapped (λ given. given.out) (next_for schemas room n) (out.Message (reply.Data told)) m.1.1 in
      let next : next_in schemas room n h.0 h.0.phase ≡ Some given.0 = sym (ap (option_and_then (λ session. next_in schemas room n session session.phase)) h.1) ∙ given.1 in
      let tells : TellsLive room n h.0 told (Some given.0) = subst (TellsLive room n h.0 told) next (tells_live room n h.0 told h.0.phase refl) in
      let t = tells given.2 in
      (t.0, sent_told last before n h.0 t.0 t.1 m.0 it.at t.2, t.3)
