-- The events of one session in a list that has one more.
use Rattle.std.proofs.Common.{◌≡◌, ◌≢◌, ◌⊎◌, ℕ, eqb, cond, true, false, List, [], ◌∷◌, ◌++◌, Option, Some, None, refl, sym, ap, ◌∙◌, subst, ⊎_elim, append-nil, eq-eqb, ne_eqb}
use Rattle.std.proofs.lemmas.List.Elements.{filter-append}
use Rattle.room_events.specs.Events.{session_of, events_of, number_of}
use Rattle.room_events.specs.declared.room_event.RoomEvent.{RoomEvent}
use Rattle.room_run.specs.Turn.{IsOwn}

none≢some : (n : ℕ) → None ≡ Some n → ⊥
none≢some n e = cc

-- who has a number has made an event
pub not_empty : (mine : List RoomEvent) (n : ℕ) → number_of mine ≡ Some n → mine ≡ [] → ⊥
not_empty mine n is empty = none≢some n (subst (λ l. number_of l ≡ Some n) empty is)

pub same_events : (n : ℕ) (pen : List RoomEvent) (e : RoomEvent) → session_of e ≡ n → events_of n (pen ++ e ∷ []) ≡ events_of n pen ++ e ∷ []
same_events n pen e is =
    filter-append (λ event. eqb (session_of event) n) pen (e ∷ []) ∙ ap (λ b. events_of n pen ++ cond b (e ∷ []) []) (eq-eqb (session_of e) n is)

pub other_events : (n : ℕ) (pen : List RoomEvent) (e : RoomEvent) → session_of e ≢ n → events_of n (pen ++ e ∷ []) ≡ events_of n pen
other_events n pen e differs =
    filter-append (λ event. eqb (session_of event) n) pen (e ∷ [])
    ∙ (ap (λ b. events_of n pen ++ cond b (e ∷ []) []) (ne_eqb (session_of e) n differs) ∙ append-nil (events_of n pen))

pub number_push : (mine : List RoomEvent) (e : RoomEvent) (n : ℕ) → number_of mine ≡ Some n → number_of (mine ++ e ∷ []) ≡ Some n
number_push [] e n is = absurd (none≢some n is)
number_push (x ∷ mine) e n is = is

-- the number of who has made an event of its own
pub number_own : (pen mine : List RoomEvent) (e : RoomEvent) → IsOwn pen mine e → number_of (mine ++ e ∷ []) ≡ Some (session_of e)
number_own pen mine e own = ⊎_elim
    (λ (is : number_of mine ≡ Some (session_of e)). number_push mine e (session_of e) is)
    (λ (new : (mine ≡ []) × (events_of (session_of e) pen ≡ [])). subst (λ l. number_of (l ++ e ∷ []) ≡ Some (session_of e)) (sym new.0) refl)
    own

pub the_number : (m n : ℕ) (o : Option ℕ) → o ≡ Some m → o ≡ Some n → m ≡ n
the_number m n o p q = cc
