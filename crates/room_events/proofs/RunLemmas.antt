-- Who is in a room by a list of events alone, of all sessions and of one.
use Rattle.std.proofs.Common.{◌≡◌, ℕ, zero, suc, ◌+◌, Bool, true, false, cond, List, [], ◌∷◌, ◌++◌, map, fold, count_by, length, get_or, slice_get, slice_set, Option, Some, None, refl, sym, ap, subst, ◌∙◌, arith}
use Rattle.std.specs.List.{list_any}
use Rattle.std.proofs.Math.ListN.{length-append}
use Rattle.std.proofs.lemmas.List.{length-set}
use Rattle.std.proofs.lemmas.List.Sums.{sum_by-cons, sum_by_push, sum_by-set}
use Rattle.std.proofs.lemmas.Option.{slice_get_past, slice_get_within, get_or_from_slice_get}
use Rattle.room_model.proofs.ClosingLemmas.{by_number}
use Rattle.room_events.specs.Events.{session_of, events_of, number_of, is_enter, is_leave, has_leave, EntersFirst, LeavesLast}
use Rattle.room_events.specs.declared.room_event.RoomEvent.{RoomEvent}
use Rattle.room_events.specs.declared.room_event.RoomEvent.TheVariants.{Enter, Message, Drain, Leave}

-- which sessions are there after an event, by their numbers
abbrev pub here_after : List Bool → RoomEvent → List Bool
here_after xs (Enter number readonly) = xs ++ true ∷ []
here_after xs (Message number said reply) = xs
here_after xs (Drain number out) = xs
here_after xs (Leave number) = slice_set xs number false

-- an event is of a session that is there, or is the next to come
abbrev pub Fits : List Bool → RoomEvent → Type 0
Fits xs (Enter number readonly) = number ≡ length xs
Fits xs (Message number said reply) = slice_get xs number ≡ Some true
Fits xs (Drain number out) = slice_get xs number ≡ Some true
Fits xs (Leave number) = slice_get xs number ≡ Some true

abbrev pub Runs : List Bool → List RoomEvent → Type 0
Runs xs [] = Unit {0}
Runs xs (event ∷ events) = Fits xs event × Runs (here_after xs event) events

-- the same of one session: it hasn't entered, or has and is there or not
abbrev pub own_after : Option Bool → RoomEvent → Option Bool
own_after o (Enter number readonly) = Some true
own_after o (Message number said reply) = o
own_after o (Drain number out) = o
own_after o (Leave number) = Some false

abbrev OwnFits : Option Bool → RoomEvent → Type 0
OwnFits o (Enter number readonly) = o ≡ None
OwnFits o (Message number said reply) = o ≡ Some true
OwnFits o (Drain number out) = o ≡ Some true
OwnFits o (Leave number) = o ≡ Some true

abbrev pub OwnRuns : Option Bool → List RoomEvent → Type 0
OwnRuns o [] = Unit {0}
OwnRuns o (event ∷ events) = OwnFits o event × OwnRuns (own_after o event) events

module _ {X : Type 0} where
  set_there : (xs : List X) (n : ℕ) (x y : X) → slice_get xs n ≡ Some x → slice_get (slice_set xs n y) n ≡ Some y
  set_there [] n x y at = absurd (cc)
  set_there (z ∷ xs) zero x y at = refl
  set_there (z ∷ xs) (suc n) x y at = set_there xs n x y at

  set_elsewhere : (xs : List X) (n k : ℕ) (y : X) → (k ≡ n → ⊥) → slice_get (slice_set xs n y) k ≡ slice_get xs k
  set_elsewhere [] n k y apart = refl
  set_elsewhere (x ∷ xs) zero zero y apart = absurd (apart refl)
  set_elsewhere (x ∷ xs) zero (suc k) y apart = refl
  set_elsewhere (x ∷ xs) (suc n) zero y apart = refl
  set_elsewhere (x ∷ xs) (suc n) (suc k) y apart = set_elsewhere xs n k y (λ is. apart (ap suc is))

  pub added_last : (xs : List X) (y : X) → slice_get (xs ++ y ∷ []) (length xs) ≡ Some y
  added_last [] y = refl
  added_last (x ∷ xs) y = added_last xs y

  pub added_elsewhere : (xs : List X) (k : ℕ) (y : X) → (k ≡ length xs → ⊥) → slice_get (xs ++ y ∷ []) k ≡ slice_get xs k
  added_elsewhere [] zero y apart = absurd (apart refl)
  added_elsewhere [] (suc k) y apart = refl
  added_elsewhere (x ∷ xs) zero y apart = refl
  added_elsewhere (x ∷ xs) (suc k) y apart = added_elsewhere xs k y (λ is. apart (ap suc is))

fits_own : (xs : List Bool) (event : RoomEvent) → Fits xs event → OwnFits (slice_get xs (session_of event)) event
fits_own xs (Enter number readonly) fits = slice_get_past xs number (omega arith)
fits_own xs (Message number said reply) fits = fits
fits_own xs (Drain number out) fits = fits
fits_own xs (Leave number) fits = fits

same_after : (xs : List Bool) (event : RoomEvent) → Fits xs event → slice_get (here_after xs event) (session_of event) ≡ own_after (slice_get xs (session_of event)) event
same_after xs (Enter number readonly) fits = ap (slice_get (xs ++ true ∷ [])) fits ∙ added_last xs true
same_after xs (Message number said reply) fits = refl
same_after xs (Drain number out) fits = refl
same_after xs (Leave number) fits = set_there xs number true false fits

other_after : (xs : List Bool) (event : RoomEvent) (n : ℕ) → Fits xs event → (session_of event ≡ n → ⊥) → slice_get (here_after xs event) n ≡ slice_get xs n
other_after xs (Enter number readonly) n fits apart = added_elsewhere xs n true (λ is. apart (fits ∙ sym is))
other_after xs (Message number said reply) n fits apart = refl
other_after xs (Drain number out) n fits apart = refl
other_after xs (Leave number) n fits apart = set_elsewhere xs number n false (λ is. apart (sym is))

-- of each session its own events say whether it is there
pub runs_own : (n : ℕ) (xs : List Bool) (events : List RoomEvent) → Runs xs events
    → OwnRuns (slice_get xs n) (events_of n events) × (slice_get (fold here_after xs events) n ≡ fold own_after (slice_get xs n) (events_of n events))
runs_own n xs [] runs = (tt, refl)
runs_own n xs (event ∷ events) runs =
    let o = slice_get xs n in
    let later = events_of n events in
    let end = slice_get (fold here_after (here_after xs event) events) n in
    let rest = runs_own n (here_after xs event) events runs.1 in
    by_number (λ b. OwnRuns o (cond b (event ∷ later) later) × (end ≡ fold own_after o (cond b (event ∷ later) later))) (session_of event) n
    (λ same.
    let fits : OwnFits o event = subst (λ k. OwnFits (slice_get xs k) event) same (fits_own xs event runs.0) in
    let now : slice_get (here_after xs event) n ≡ own_after o event = subst (λ k. slice_get (here_after xs event) k ≡ own_after (slice_get xs k) event) same (same_after xs event runs.0) in
    ((fits, subst (λ p. OwnRuns p later) now rest.0), subst (λ p. end ≡ fold own_after p later) now rest.1))
    (λ apart.
    let now : slice_get (here_after xs event) n ≡ o = other_after xs event n runs.0 apart in
    (subst (λ p. OwnRuns p later) now rest.0, subst (λ p. end ≡ fold own_after p later) now rest.1))

-- who entered is still known
never_none : (b : Bool) (events : List RoomEvent) → fold own_after (Some b) events ≡ None → ⊥
never_none b [] is = absurd (cc)
never_none b (Enter number readonly ∷ events) is = never_none true events is
never_none b (Message number said reply ∷ events) is = never_none b events is
never_none b (Drain number out ∷ events) is = never_none b events is
never_none b (Leave number ∷ events) is = never_none false events is

pub none_own : (events : List RoomEvent) → OwnRuns None events → fold own_after None events ≡ None → events ≡ []
none_own [] runs is = refl
none_own (Enter number readonly ∷ events) runs is = absurd (never_none true events is)
none_own (Message number said reply ∷ events) runs is = absurd (let h = runs.0 in cc)
none_own (Drain number out ∷ events) runs is = absurd (let h = runs.0 in cc)
none_own (Leave number ∷ events) runs is = absurd (let h = runs.0 in cc)

enters_no_more : (b : Bool) (events : List RoomEvent) → OwnRuns (Some b) events → list_any is_enter events ≡ false
enters_no_more b [] runs = refl
enters_no_more b (Enter number readonly ∷ events) runs = absurd (let h = runs.0 in cc)
enters_no_more b (Message number said reply ∷ events) runs = enters_no_more b events runs.1
enters_no_more b (Drain number out ∷ events) runs = enters_no_more b events runs.1
enters_no_more b (Leave number ∷ events) runs = enters_no_more false events runs.1

pub enters_first : (events : List RoomEvent) → OwnRuns None events → EntersFirst events
enters_first [] runs = tt
enters_first (Enter number readonly ∷ events) runs = (refl, enters_no_more true events runs.1)
enters_first (Message number said reply ∷ events) runs = absurd (let h = runs.0 in cc)
enters_first (Drain number out ∷ events) runs = absurd (let h = runs.0 in cc)
enters_first (Leave number ∷ events) runs = absurd (let h = runs.0 in cc)

none_left : (events : List RoomEvent) → OwnRuns (Some false) events → events ≡ []
none_left [] runs = refl
none_left (Enter number readonly ∷ events) runs = absurd (let h = runs.0 in cc)
none_left (Message number said reply ∷ events) runs = absurd (let h = runs.0 in cc)
none_left (Drain number out ∷ events) runs = absurd (let h = runs.0 in cc)
none_left (Leave number ∷ events) runs = absurd (let h = runs.0 in cc)

pub leaves_last : (o : Option Bool) (events : List RoomEvent) → OwnRuns o events → LeavesLast events
leaves_last o [] runs = tt
leaves_last o (Enter number readonly ∷ events) runs = (λ is. absurd (cc), leaves_last (Some true) events runs.1)
leaves_last o (Message number said reply ∷ events) runs = (λ is. absurd (cc), leaves_last o events runs.1)
leaves_last o (Drain number out ∷ events) runs = (λ is. absurd (cc), leaves_last o events runs.1)
leaves_last o (Leave number ∷ events) runs = (λ is. none_left events runs.1, leaves_last (Some false) events runs.1)

still_there : (events : List RoomEvent) → OwnRuns (Some true) events → has_leave events ≡ false → fold own_after (Some true) events ≡ Some true
still_there [] runs is = refl
still_there (Enter number readonly ∷ events) runs is = still_there events runs.1 is
still_there (Message number said reply ∷ events) runs is = still_there events runs.1 is
still_there (Drain number out ∷ events) runs is = still_there events runs.1 is
still_there (Leave number ∷ events) runs is = absurd (cc)

pub there_own : (events : List RoomEvent) (n : ℕ) → OwnRuns None events → number_of events ≡ Some n → has_leave events ≡ false → fold own_after None events ≡ Some true
there_own [] n runs of is = absurd (cc)
there_own (Enter number readonly ∷ events) n runs of is = still_there events runs.1 is
there_own (Message number said reply ∷ events) n runs of is = absurd (let h = runs.0 in cc)
there_own (Drain number out ∷ events) n runs of is = absurd (let h = runs.0 in cc)
there_own (Leave number ∷ events) n runs of is = absurd (let h = runs.0 in cc)

stays_gone : (events : List RoomEvent) → OwnRuns (Some false) events → fold own_after (Some false) events ≡ Some false
stays_gone events runs = ap (fold own_after (Some false)) (none_left events runs)

-- who left isn't there any more
pub gone_own : (o : Option Bool) (events : List RoomEvent) → OwnRuns o events → has_leave events ≡ true → fold own_after o events ≡ Some false
gone_own o [] runs is = absurd (cc)
gone_own o (Enter number readonly ∷ events) runs is = gone_own (Some true) events runs.1 is
gone_own o (Message number said reply ∷ events) runs is = gone_own o events runs.1 is
gone_own o (Drain number out ∷ events) runs is = gone_own o events runs.1 is
gone_own o (Leave number ∷ events) runs is = stays_gone events runs.1

one_more : (xs : List Bool) (event : RoomEvent) → length (here_after xs event) ≡ length xs + cond (is_enter event) 1 0
one_more xs (Enter number readonly) = length-append xs (true ∷ [])
one_more xs (Message number said reply) = omega arith
one_more xs (Drain number out) = omega arith
one_more xs (Leave number) = let same = length-set xs number false in omega arith

-- how many have entered
pub count_all : (xs : List Bool) (events : List RoomEvent) → Runs xs events → length (fold here_after xs events) ≡ length xs + count_by is_enter events
count_all xs [] runs = omega arith
count_all xs (event ∷ events) runs =
    let more : count_by is_enter (event ∷ events) ≡ cond (is_enter event) 1 0 + count_by is_enter events = sum_by-cons (λ e. cond (is_enter e) 1 0) event events in
    let rest = count_all (here_after xs event) events runs.1 in
    let one = one_more xs event in
    omega arith

abbrev pub count_true : List Bool → ℕ
count_true xs = count_by (λ b. b) xs

one_there : (xs : List Bool) (event : RoomEvent) → Fits xs event → count_true (here_after xs event) + cond (is_leave event) 1 0 ≡ count_true xs + cond (is_enter event) 1 0
one_there xs (Enter number readonly) fits = let more : count_true (xs ++ true ∷ []) ≡ count_true xs + 1 = sum_by_push (λ b. cond b 1 0) xs true in omega arith
one_there xs (Message number said reply) fits = omega arith
one_there xs (Drain number out) fits = omega arith
one_there xs (Leave number) fits =
    let less = slice_get_within xs number true fits in
    let was : get_or xs number true ≡ true = get_or_from_slice_get xs number true true fits in
    let sums : count_true (slice_set xs number false) + cond (get_or xs number true) 1 0 ≡ count_true xs + 0 = sum_by-set (λ b. cond b 1 0) xs number false true less in
    let one : cond {A = ℕ} (get_or xs number true) 1 0 ≡ 1 = ap (λ (b : Bool). cond {A = ℕ} b 1 0) was in
    omega (arith, sums, one)

-- and how many of these are there
pub count_there : (xs : List Bool) (events : List RoomEvent) → Runs xs events
    → count_true (fold here_after xs events) + count_by is_leave events ≡ count_true xs + count_by is_enter events
count_there xs [] runs = refl
count_there xs (event ∷ events) runs =
    let enters : count_by is_enter (event ∷ events) ≡ cond (is_enter event) 1 0 + count_by is_enter events = sum_by-cons (λ e. cond (is_enter e) 1 0) event events in
    let leaves : count_by is_leave (event ∷ events) ≡ cond (is_leave event) 1 0 + count_by is_leave events = sum_by-cons (λ e. cond (is_leave e) 1 0) event events in
    let rest = count_there (here_after xs event) events runs.1 in
    let one = one_there xs event runs.0 in
    omega arith

pub count_map : {X : Type 0} (f : X → Bool) (xs : List X) → count_true (map f xs) ≡ count_by f xs
count_map f [] = refl
count_map f (x ∷ xs) = sum_by-cons (λ b. cond b 1 0) (f x) (map f xs) ∙ ap (λ n. cond (f x) 1 0 + n) (count_map f xs) ∙ sym (sum_by-cons (λ y. cond (f y) 1 0) x xs)
