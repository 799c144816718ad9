-- Changes in the order of their clocks.
use Rattle.std.proofs.Common.{◌≡◌, ℤ, ◌<ℤ◌, ◌≤ℤ◌, Bool, true, false, cond, List, [], ◌∷◌, ◌++◌, filter, All, refl, ap, arith}
use Rattle.std.specs.Prelude.{int_lt}
use Rattle.std.proofs.lemmas.Int.{ints}
use Rattle.std.proofs.lemmas.List.Elements.{All-nil, All-cons, All-head, All-tail, All-push, All-filter, All-contains, All-weaker, Contains-push}
use Rattle.change_list.specs.declared.entries.Change.{Change}
use Rattle.change_list.specs.Changes.{is_after, HasRisingClocks}

pub is_later : (a b : ℤ) → a <ℤ b → int_lt a b ≡ true
is_later a b h = grind (arith, ints)

pub not_later : (a b : ℤ) → b ≤ℤ a → int_lt a b ≡ false
not_later a b h = grind (arith, ints)

pub late_clock : (clock : ℤ) (c : Change) → is_after clock c ≡ true → clock <ℤ c.clock
late_clock clock c e = grind (arith, ints)

pub early_clock : (clock : ℤ) (c : Change) → is_after clock c ≡ false → c.clock ≤ℤ clock
early_clock clock c e = grind (arith, ints)

pub filter_whole : {X : Type 0} (p : X → Bool) (xs : List X) → All (λ x. p x ≡ true) xs → filter p xs ≡ xs
filter_whole p [] h = refl
filter_whole {X} p (x ∷ xs) h = kept (p x) (All-head (λ (y : X). p y ≡ true) x xs h) (filter_whole p xs (All-tail (λ (y : X). p y ≡ true) x xs h))
  where
    kept : (b : Bool) → b ≡ true → filter p xs ≡ xs → cond b (x ∷ filter p xs) (filter p xs) ≡ x ∷ xs
    kept true e rest = ap (λ ys. x ∷ ys) rest
    kept false e rest = absurd (cc)

pub filter_none : {X : Type 0} (p : X → Bool) (xs : List X) → All (λ x. p x ≡ false) xs → filter p xs ≡ []
filter_none p [] h = refl
filter_none {X} p (x ∷ xs) h = dropped (p x) (All-head (λ (y : X). p y ≡ false) x xs h) (filter_none p xs (All-tail (λ (y : X). p y ≡ false) x xs h))
  where
    dropped : (b : Bool) → b ≡ false → filter p xs ≡ [] → cond b (x ∷ filter p xs) (filter p xs) ≡ []
    dropped true e rest = absurd (cc)
    dropped false e rest = rest

pub rising_filter : (p : Change → Bool) (cs : List Change) → HasRisingClocks cs → HasRisingClocks (filter p cs)
rising_filter p [] h = tt
rising_filter p (c ∷ cs) h = chosen (p c) (rising_filter p cs h.1)
  where
    chosen : (b : Bool) → HasRisingClocks (filter p cs) → HasRisingClocks (cond b (c ∷ filter p cs) (filter p cs))
    chosen true rest = (All-filter p (λ (d : Change). c.clock ≤ℤ d.clock) cs h.0, rest)
    chosen false rest = rest

pub rising_push : (cs : List Change) (c : Change) → HasRisingClocks cs → All (λ d. d.clock ≤ℤ c.clock) cs → HasRisingClocks (cs ++ c ∷ [])
rising_push [] c h up = (All-nil (λ (d : Change). c.clock ≤ℤ d.clock), tt)
rising_push (b ∷ cs) c h up =
    (All-push (λ (d : Change). b.clock ≤ℤ d.clock) cs c h.0 (All-head (λ (d : Change). d.clock ≤ℤ c.clock) b cs up), rising_push cs c h.1 (All-tail (λ (d : Change). d.clock ≤ℤ c.clock) b cs up))

-- from a change after the clock on, all are
pub all_after : (clock : ℤ) (c : Change) (cs : List Change) → HasRisingClocks (c ∷ cs) → clock <ℤ c.clock → filter (is_after clock) (c ∷ cs) ≡ c ∷ cs
all_after clock c cs h late =
    filter_whole (is_after clock) (c ∷ cs) (All-cons (λ (d : Change). is_after clock d ≡ true) c cs (is_later clock c.clock late) (All-weaker (λ (d : Change). c.clock ≤ℤ d.clock) (λ (d : Change). is_after clock d ≡ true) (λ d le. is_later clock d.clock (omega (arith, ints, late, le))) cs h.0))

up_to_last : (cs : List Change) (c : Change) → HasRisingClocks (cs ++ c ∷ []) → All (λ d. d.clock ≤ℤ c.clock) cs
up_to_last [] c h = All-nil (λ (d : Change). d.clock ≤ℤ c.clock)
up_to_last (b ∷ cs) c h =
    All-cons (λ (d : Change). d.clock ≤ℤ c.clock) b cs (All-contains (λ (d : Change). b.clock ≤ℤ d.clock) (cs ++ c ∷ []) c h.0 (Contains-push cs c)) (up_to_last cs c h.1)

-- up to a change that isn't after the clock, none is
pub none_after : (clock : ℤ) (cs : List Change) (c : Change) → HasRisingClocks (cs ++ c ∷ []) → c.clock ≤ℤ clock → filter (is_after clock) (cs ++ c ∷ []) ≡ []
none_after clock cs c h early =
    filter_none (is_after clock) (cs ++ c ∷ []) (All-push (λ (d : Change). is_after clock d ≡ false) cs c (All-weaker (λ (d : Change). d.clock ≤ℤ c.clock) (λ (d : Change). is_after clock d ≡ false) (λ d le. not_later clock d.clock (omega (arith, ints, early, le))) cs (up_to_last cs c h)) (not_later clock c.clock early))

pub rising_left : (cs ds : List Change) → HasRisingClocks (cs ++ ds) → HasRisingClocks cs
rising_left [] ds h = tt
rising_left (c ∷ cs) ds h = (shorter (λ (d : Change). c.clock ≤ℤ d.clock) cs ds h.0, rising_left cs ds h.1)
  where
    shorter : (P : Change → Type 0) (xs ys : List Change) → All P (xs ++ ys) → All P xs
    shorter P [] ys a = All-nil P
    shorter P (x ∷ xs) ys a = All-cons P x xs (All-head P x (xs ++ ys) a) (shorter P xs ys (All-tail P x (xs ++ ys) a))
