-- What a seat knows once it has made more events, and of whose session they are.
use Rattle.std.proofs.Common.{◌≡◌, ◌≢◌, ◌⊎◌, ℕ, Bool, true, false, ◌||◌, List, [], ◌∷◌, ◌++◌, map, Option, Some, None, IfOk, refl, sym, ap, ◌∙◌, subst, inl, inr, ⊎_elim, append_assoc, append-nil}
use Rattle.std.proofs.lemmas.List.{map-append}
use Rattle.std.specs.List.{list_any}
use Rattle.room_events.specs.Events.{session_of, events_of, number_of, is_leave, has_leave}
use Rattle.room_events.specs.declared.room_event.RoomEvent.{RoomEvent}
use Rattle.room_events.specs.declared.room_event.RoomEvent.TheVariants.{Enter, Message, Drain, Leave}
use Rattle.room_events.specs.Legal.{Legal}
use Rattle.room_run.specs.Calls.{given, given_all, given_idle, Acts, IsEntered}
use Rattle.room_run.specs.Held.{IsInside, longer}
use Rattle.room_run.specs.Openings.{Opening, schemas_of, last_of}
use Rattle.room_run.specs.Rule.{Fits}
use Rattle.room_run.specs.Steps.{Seated, without_turn}
use Rattle.room_run.specs.Turn.{HasTurn, Turned, IsOwn, Added, IsOf, IsReady}
use Rattle.room_run.specs.declared.views.Story.{Story}
use Rattle.room_run.specs.declared.views.View.{View}
use Rattle.room_run.proofs.EventLemmas.{same_events, number_push}
use Rattle.sync_msgs.specs.declared.out.Out.{Out}

-- the session of a seat with the turn is inside
pub inside : (number : ℕ) (v : View) (pen : List RoomEvent) → v.seen ≡ pen → IsOf number v → IsInside number pen
inside number v pen seen is =
    let all : events_of number pen ≡ v.mine = sym (ap (events_of number) seen) ∙ is.all in
    (ap number_of all ∙ is.session, ap has_leave all ∙ is.stays)

or_less : (a b c : Bool) → (b ≡ false → c ≡ false) → (a || b) ≡ false → (a || c) ≡ false
or_less true b c less is = is
or_less false b c less is = less is

none_leaves : (mine : List RoomEvent) (e : RoomEvent) → has_leave mine ≡ false → is_leave e ≡ false → has_leave (mine ++ e ∷ []) ≡ false
none_leaves [] e stays no_leave = ap (λ b. b || false) no_leave
none_leaves (x ∷ mine) e stays no_leave = or_less (is_leave x) (has_leave mine) (has_leave (mine ++ e ∷ [])) (λ is. none_leaves mine e is no_leave) stays

-- the view of a session that makes an event, which isn't its leave, is still the session's
pub still_of : (number : ℕ) (v w : View) (e : RoomEvent) → IsOf number v → session_of e ≡ number → is_leave e ≡ false → Added v w (e ∷ []) → IsOf number w
still_of number v w e is same no_leave added = record {
  session = ap number_of added.2 ∙ number_push v.mine e number is.session;
  stays = ap has_leave added.2 ∙ none_leaves v.mine e is.stays no_leave;
  all = ap (events_of number) added.1 ∙ (same_events number v.seen e same ∙ (ap (λ l. l ++ e ∷ []) is.all ∙ sym added.2));
}

pub added_none : (v : View) → Added v v []
added_none v = (refl, sym (append-nil v.seen), sym (append-nil v.mine))

pub added_both : (u v w : View) (xs ys : List RoomEvent) → Added u v xs → Added v w ys → Added u w (xs ++ ys)
added_both u v w xs ys a b = (
  b.0 ∙ a.0,
  b.1 ∙ (ap (λ l. l ++ ys) a.1 ∙ append_assoc u.seen xs ys),
  b.2 ∙ (ap (λ l. l ++ ys) a.2 ∙ append_assoc u.mine xs ys),
)

-- some events of what was given, and then more
pub given_more : (number : ℕ) (outs more : List Out) → given number (outs ++ more) ≡ given number outs ++ given number more
given_more number outs more = map-append (λ out. Drain number (Some out)) outs more

-- the seat of a session that made an event, which isn't its leave, is ready for more
pub ready_after : (number : ℕ) (before after : Seated) (held next result : Story) (e : RoomEvent) → IsReady number before held → next ≡ longer held e
    → session_of e ≡ number → is_leave e ≡ false → HasTurn after next → result ≡ next
    → ((event : RoomEvent) → next.pen ≡ before.0.seen ++ event ∷ [] → Added before.0 after.0 (event ∷ [])) → IsReady number after result
ready_after number before after held next result e ready is same no_leave turn back added =
    let longer' : next.pen ≡ before.0.seen ++ e ∷ [] = ap (λ (s : Story). s.pen) is ∙ ap (λ l. l ++ e ∷ []) (sym ready.0.2) in
    (subst (HasTurn after) (sym back) turn, still_of number before.0 after.0 e ready.1 same no_leave (added e longer'))

-- the events of a session that made one are still all that its seat made
pub all_after : (number : ℕ) (before after : Seated) (held next : Story) (e : RoomEvent) → IsReady number before held → next ≡ longer held e → session_of e ≡ number
    → ((event : RoomEvent) → next.pen ≡ before.0.seen ++ event ∷ [] → Added before.0 after.0 (event ∷ [])) → events_of number after.0.seen ≡ after.0.mine
all_after number before after held next e ready is same added =
    let longer' : next.pen ≡ before.0.seen ++ e ∷ [] = ap (λ (s : Story). s.pen) is ∙ ap (λ l. l ++ e ∷ []) (sym ready.0.2) in
    let more = added e longer' in
    ap (events_of number) more.1 ∙ (same_events number before.0.seen e same ∙ (ap (λ l. l ++ e ∷ []) ready.1.all ∙ sym more.2))

pub idle_given : (number : ℕ) (outs : List Out) → (outs ≡ [] → ⊥) → given_idle number outs ≡ given_all number outs
idle_given number [] some = absurd (some refl)
idle_given number (out ∷ outs) some = refl

same_opening : (o p : Opening) (x : Option Opening) → x ≡ Some o → x ≡ Some p → o ≡ p
same_opening o p x a b = cc

-- what a call does, from the turn that was taken to the one that was given back
pub acts : (opening : Opening) (number : ℕ) (before taken after last : View) (story : Story) (events : List RoomEvent)
    → before.opening ≡ Some opening → Turned before taken → Added taken after events → last ≡ without_turn after
    → after.seen ≡ story.pen → after.opening ≡ Some story.opening → Legal (schemas_of story.opening) (last_of story.opening) story.pen
    → events_of number after.seen ≡ after.mine → Acts opening number before last events
acts opening number before taken after last story events ours turned added back whole of legal all =
    let same : story.opening ≡ opening = same_opening story.opening opening after.opening of (added.0 ∙ (turned.0 ∙ ours)) in
    let seen : last.seen ≡ after.seen = ap (λ (v : View). v.seen) back in
    let mine : last.mine ≡ after.mine = ap (λ (v : View). v.mine) back in record {
      between = turned.3.begins.0;
      seen = seen ∙ (added.1 ∙ ap (λ l. l ++ events) (sym turned.3.begins.1));
      mine = mine ∙ (added.2 ∙ ap (λ l. l ++ events) turned.1);
      legal = subst (λ l. Legal (schemas_of opening) (last_of opening) l) (sym (seen ∙ whole)) (subst (λ o. Legal (schemas_of o) (last_of o) story.pen) same legal);
      all = ap (events_of number) seen ∙ (all ∙ sym mine);
    }

-- who enters has made just the enter, from the turn that was taken to the one that was given back
pub enters : (opening : Opening) (number : ℕ) (readonly : Bool) (taken after last : View) (story : Story)
    → taken.mine ≡ [] → taken.opening ≡ Some opening → events_of number taken.seen ≡ [] → Added taken after (Enter number readonly ∷ []) → last ≡ without_turn after
    → after.seen ≡ story.pen → after.opening ≡ Some story.opening → Legal (schemas_of story.opening) (last_of story.opening) story.pen → IsEntered opening number readonly last
enters opening number readonly taken after last story none ours unused added back whole of legal =
    let event = Enter number readonly in
    let same : story.opening ≡ opening = same_opening story.opening opening after.opening of (added.0 ∙ ours) in
    let seen : last.seen ≡ taken.seen ++ event ∷ [] = ap (λ (v : View). v.seen) back ∙ added.1 in
    let mine : last.mine ≡ event ∷ [] = ap (λ (v : View). v.mine) back ∙ (added.2 ∙ ap (λ l. l ++ event ∷ []) none) in record {
      before = taken.seen;
      seen = seen;
      mine = mine;
      legal = subst (λ l. Legal (schemas_of opening) (last_of opening) l) (sym (ap (λ (v : View). v.seen) back ∙ whole)) (subst (λ o. Legal (schemas_of o) (last_of o) story.pen) same legal);
      all = ap (events_of number) seen ∙ (same_events number taken.seen event refl ∙ (ap (λ l. l ++ event ∷ []) unused ∙ sym mine));
    }
