-- Where the clocks of ids lie, and what that makes of the start.
use Rattle.std.proofs.Common.{◌≡◌, ℕ, zero, suc, ◌-◌, ◌≤◌, ◌<◌, max, nat_lt, nat_le, Bool, true, false, cond, not, List, [], ◌∷◌, ◌++◌, length, map, filter, slice_get, Option, Some, None, refl, sym, ap, subst, ◌∙◌, arith}
use Rattle.std.specs.Prelude.{is_none}
use Rattle.std.specs.Option.{option_map_or}
use Rattle.std.proofs.lemmas.Bool.Decides.{nat_tests}
use Rattle.rooms_val.specs.Maps.{value_at}
use Rattle.room_model.specs.Histories.{History, records_of, names, last_clocks, changed_after, absent_after, clock_at, start_after, start_of, dead}
use Rattle.room_model.specs.declared.history.Entry.{Entry}
use Rattle.room_model.specs.declared.limits.TheConstants.{MOST_DEAD, KEPT_DEAD}

module _ {X : Type 0} where
  -- something holds of each
  abbrev pub Each : (X → Type 0) → List X → Type 0
  Each P [] = Unit {0}
  Each P (x ∷ xs) = P x × Each P xs

  pub each-imp : (P Q : X → Type 0) → ((x : X) → P x → Q x) → (xs : List X) → Each P xs → Each Q xs
  each-imp P Q f [] h = tt
  each-imp P Q f (x ∷ xs) h = (f x h.0, each-imp P Q f xs h.1)

  pub each-two : (P Q R : X → Type 0) → ((x : X) → P x → Q x → R x) → (xs : List X) → Each P xs → Each Q xs → Each R xs
  each-two P Q R f [] h k = tt
  each-two P Q R f (x ∷ xs) h k = (f x h.0 k.0, each-two P Q R f xs h.1 k.1)

  pub each-filter : (P : X → Type 0) (test : X → Bool) (xs : List X) → Each P xs → Each P (filter test xs)
  each-filter P test [] h = tt
  each-filter P test (x ∷ xs) h = elim (test x) as (λ b. Each P (cond b (x ∷ filter test xs) (filter test xs))) [ true ↦ (h.0, each-filter P test xs h.1) | false ↦ each-filter P test xs h.1 ]

  pub each-passes : (test : X → Bool) (xs : List X) → Each (λ x. test x ≡ true) (filter test xs)
  each-passes test [] = tt
  each-passes test (x ∷ xs) = elim (test x) as (λ b. test x ≡ b → Each (λ y. test y ≡ true) (cond b (x ∷ filter test xs) (filter test xs))) [ true ↦ λ is. (is, each-passes test xs) | false ↦ λ is. each-passes test xs ] refl

  pub each-append : (P : X → Type 0) (xs ys : List X) → Each P xs → Each P ys → Each P (xs ++ ys)
  each-append P [] ys h k = k
  each-append P (x ∷ xs) ys h k = (h.0, each-append P xs ys h.1 k)

  pub at_most-filter : (test : X → Bool) (xs : List X) → length (filter test xs) ≤ length xs
  at_most-filter test [] = omega arith
  at_most-filter test (x ∷ xs) = let h = at_most-filter test xs in elim (test x) as (λ b. length (cond b (x ∷ filter test xs) (filter test xs)) ≤ suc (length xs)) [ true ↦ omega arith | false ↦ omega arith ]

  -- who passes two tests in one order passes them in the other
  pub filter_twice : (f g : X → Bool) (xs : List X) → filter f (filter g xs) ≡ filter g (filter f xs)
  filter_twice f g [] = refl
  filter_twice f g (x ∷ xs) =
      let ih = filter_twice f g xs in
      elim (f x) as (λ b. f x ≡ b → filter f (cond (g x) (x ∷ filter g xs) (filter g xs)) ≡ filter g (cond b (x ∷ filter f xs) (filter f xs))) [
        | true ↦ λ is. elim (g x) as (λ c. filter f (cond c (x ∷ filter g xs) (filter g xs)) ≡ cond c (x ∷ filter g (filter f xs)) (filter g (filter f xs))) [
          | true ↦ ap (λ b. cond b (x ∷ filter f (filter g xs)) (filter f (filter g xs))) is ∙ ap (λ r. x ∷ r) ih
          | false ↦ ih
        ]
        | false ↦ λ is. elim (g x) as (λ c. filter f (cond c (x ∷ filter g xs) (filter g xs)) ≡ filter g (filter f xs)) [
          | true ↦ ap (λ b. cond b (x ∷ filter f (filter g xs)) (filter f (filter g xs))) is ∙ ih
          | false ↦ ih
        ]
      ] refl

  -- a test that asks more than another
  pub filter_through : (f g : X → Bool) → ((x : X) → f x ≡ true → g x ≡ true) → (xs : List X) → filter f (filter g xs) ≡ filter f xs
  filter_through f g more [] = refl
  filter_through f g more (x ∷ xs) =
      elim (g x) as (λ b. g x ≡ b → filter f (cond b (x ∷ filter g xs) (filter g xs)) ≡ cond (f x) (x ∷ filter f xs) (filter f xs)) [
        | true ↦ λ is. ap (λ r. cond (f x) (x ∷ r) r) (filter_through f g more xs)
        | false ↦ λ is. filter_through f g more xs ∙ elim (f x) as (λ b. f x ≡ b → filter f xs ≡ cond b (x ∷ filter f xs) (filter f xs)) [
          | true ↦ λ passes. let both = more x passes in absurd (cc)
          | false ↦ λ passes. refl
        ] refl
      ] refl

-- ids with their clocks
abbrev Clocks : Type 0
Clocks = List (List ℕ × ℕ)

-- the clock at a place from 0
abbrev nth : Clocks → ℕ → ℕ
nth ids k = option_map_or (λ p. p.1) (slice_get ids k) 0

nth_within : (P : ℕ → Type 0) (ids : Clocks) (k : ℕ) → Each (λ p. P p.1) ids → k < length ids → P (nth ids k)
nth_within P [] k h less = absurd (omega arith)
nth_within P (p ∷ ids) zero h less = h.0
nth_within P (p ∷ ids) (suc k) h less = nth_within P ids k h.1 (omega arith)

-- the clocks rise
abbrev Rise : Clocks → Type 0
Rise [] = Unit {0}
Rise (p ∷ ids) = Each (λ q. p.1 ≤ q.1) ids × Rise ids

rise-filter : (test : List ℕ × ℕ → Bool) (ids : Clocks) → Rise ids → Rise (filter test ids)
rise-filter test [] h = tt
rise-filter test (p ∷ ids) h = elim (test p) as (λ b. Rise (cond b (p ∷ filter test ids) (filter test ids))) [
  | true ↦ (each-filter (λ q. p.1 ≤ q.1) test ids h.0, rise-filter test ids h.1)
  | false ↦ rise-filter test ids h.1
]

rise-append : (ids more : Clocks) → Rise ids → Rise more → Each (λ p. Each (λ q. p.1 ≤ q.1) more) ids → Rise (ids ++ more)
rise-append [] more h k across = k
rise-append (p ∷ ids) more h k across = (each-append (λ q. p.1 ≤ q.1) ids more h.0 across.0, rise-append ids more h.1 k across.1)

module _ (clock : ℕ) where
  -- ids that all have one clock
  abbrev at_clock : {Y : Type 0} → List (List ℕ × Y) → Clocks
  at_clock cs = map (λ c. (c.0, clock)) cs

  each-at_clock : {Y : Type 0} (P : ℕ → Type 0) (cs : List (List ℕ × Y)) → P clock → Each (λ p. P p.1) (at_clock cs)
  each-at_clock P [] h = tt
  each-at_clock P (c ∷ cs) h = (h, each-at_clock P cs h)

  rise-at_clock : {Y : Type 0} (cs : List (List ℕ × Y)) → Rise (at_clock cs)
  rise-at_clock [] = tt
  rise-at_clock (c ∷ cs) = (each-at_clock (λ n. clock ≤ n) cs (omega arith), rise-at_clock cs)

-- no id has a clock above the room's
pub last_within : (history : History) → Each (λ p. p.1 ≤ length history) (last_clocks history)
last_within [] = tt
last_within (entry ∷ history) =
    let old = each-imp (λ p. p.1 ≤ length history) (λ p. p.1 ≤ suc (length history)) (λ p h. omega arith) (last_clocks history) (last_within history) in
    each-append (λ p. p.1 ≤ suc (length history)) _ _ (each-filter (λ p. p.1 ≤ suc (length history)) (λ p. not (names p.0 entry)) (last_clocks history) old)
    (each-at_clock (suc (length history)) (λ n. n ≤ suc (length history)) entry.diff (omega arith))

pub last_rise : (history : History) → Rise (last_clocks history)
last_rise [] = tt
last_rise (entry ∷ history) =
    let kept = each-filter (λ p. p.1 ≤ length history) (λ p. not (names p.0 entry)) (last_clocks history) (last_within history) in
    rise-append _ _ (rise-filter (λ p. not (names p.0 entry)) (last_clocks history) (last_rise history)) (rise-at_clock (suc (length history)) entry.diff)
    (each-imp (λ p. p.1 ≤ length history) (λ p. Each (λ q. p.1 ≤ q.1) (at_clock (suc (length history)) entry.diff))
    (λ p h. each-at_clock (suc (length history)) (λ n. p.1 ≤ n) entry.diff (omega arith)) (filter (λ p. not (names p.0 entry)) (last_clocks history)) kept)

absent_above : (clock : ℕ) (history : History) → Each (λ p. clock < p.1) (absent_after clock history)
absent_above clock history =
    each-filter (λ p. clock < p.1) (λ p. is_none (value_at (records_of history) p.0)) (changed_after clock history)
    (each-imp (λ p. nat_lt clock p.1 ≡ true) (λ p. clock < p.1) (λ p is. grind (arith, nat_tests)) (changed_after clock history)
    (each-passes (λ p. nat_lt clock p.1) (last_clocks history)))

absent_within : (clock : ℕ) (history : History) → Each (λ p. p.1 ≤ length history) (absent_after clock history)
absent_within clock history =
    each-filter (λ p. p.1 ≤ length history) (λ p. is_none (value_at (records_of history) p.0)) (changed_after clock history)
    (each-filter (λ p. p.1 ≤ length history) (λ p. nat_lt clock p.1) (last_clocks history) (last_within history))

absent_rise : (clock : ℕ) (history : History) → Rise (absent_after clock history)
absent_rise clock history =
    rise-filter (λ p. is_none (value_at (records_of history) p.0)) (changed_after clock history) (rise-filter (λ p. nat_lt clock p.1) (last_clocks history) (last_rise history))

-- what holds of the start and of each absent id's clock holds of the start afterwards
start_has : (P : ℕ → Type 0) (start : ℕ) (ids : Clocks) → P start → Each (λ p. P p.1) ids → P (start_after start ids)
start_has P start ids old each =
    elim (nat_le (length ids) MOST_DEAD) as (λ b. nat_le (length ids) MOST_DEAD ≡ b → P (cond b start (clock_at (length ids - KEPT_DEAD) ids))) [
      | true ↦ λ is. old
      | false ↦ λ is. nth_within P ids (length ids - KEPT_DEAD - 1) each (grind (arith, nat_tests))
    ] refl

pub start_rises : (first : ℕ) (entry : Entry) (history : History) → start_of first history ≤ start_of first (entry ∷ history)
start_rises first entry history =
    let start = start_of first history in
    start_has (λ n. start ≤ n) start (absent_after start (entry ∷ history)) (omega arith)
    (each-imp (λ p. start < p.1) (λ p. start ≤ p.1) (λ p h. omega arith) (absent_after start (entry ∷ history)) (absent_above start (entry ∷ history)))

pub start_within : (first : ℕ) (history : History) → start_of first history ≤ max first (length history)
start_within first [] = omega arith
start_within first (entry ∷ history) =
    let start = start_of first history in
    let before = start_within first history in
    start_has (λ n. n ≤ max first (suc (length history))) start (absent_after start (entry ∷ history)) (omega arith)
    (each-imp (λ p. p.1 ≤ suc (length history)) (λ p. p.1 ≤ max first (suc (length history))) (λ p h. omega arith)
    (absent_after start (entry ∷ history)) (absent_within start (entry ∷ history)))

-- of rising clocks those above the one at a place stand after it
above_place : (ids : Clocks) (k : ℕ) → Rise ids → k < length ids → length (filter (λ p. nat_lt (nth ids k) p.1) ids) ≤ length ids - suc k
above_place [] k rise less = absurd (omega arith)
above_place (p ∷ ids) zero rise less =
    let h = at_most-filter (λ q. nat_lt p.1 q.1) ids in
    elim (nat_lt p.1 p.1) as (λ b. nat_lt p.1 p.1 ≡ b → length (cond b (p ∷ filter (λ q. nat_lt p.1 q.1) ids) (filter (λ q. nat_lt p.1 q.1) ids)) ≤ suc (length ids) - suc zero) [
      | true ↦ λ is. absurd (grind (arith, nat_tests))
      | false ↦ λ is. omega arith
    ] refl
above_place (p ∷ ids) (suc k) rise less =
    let x = nth ids k in
    let h = above_place ids k rise.1 (omega arith) in
    let low : p.1 ≤ x = nth_within (λ n. p.1 ≤ n) ids k rise.0 (omega arith) in
    elim (nat_lt x p.1) as (λ b. nat_lt x p.1 ≡ b → length (cond b (p ∷ filter (λ q. nat_lt x q.1) ids) (filter (λ q. nat_lt x q.1) ids)) ≤ suc (length ids) - suc (suc k)) [
      | true ↦ λ is. absurd (grind (arith, nat_tests))
      | false ↦ λ is. omega arith
    ] refl

-- the absent ids above a later clock are those of the absent ones that lie above it
absent_later : (start later : ℕ) (history : History) → start ≤ later → absent_after later history ≡ filter (λ p. nat_lt later p.1) (absent_after start history)
absent_later start later history less =
    sym (filter_twice (λ p. nat_lt later p.1) (λ p. is_none (value_at (records_of history) p.0)) (changed_after start history)
    ∙ ap (filter (λ p. is_none (value_at (records_of history) p.0)))
    (filter_through (λ p. nat_lt later p.1) (λ p. nat_lt start p.1) (λ p is. grind (arith, nat_tests)) (last_clocks history)))

few_after : (start : ℕ) (history : History) → length (absent_after (start_after start (absent_after start history)) history) ≤ MOST_DEAD
few_after start history =
    let ids = absent_after start history in
    let k = length ids - KEPT_DEAD - 1 in
    elim (nat_le (length ids) MOST_DEAD) as (λ b. nat_le (length ids) MOST_DEAD ≡ b → length (absent_after (cond b start (clock_at (length ids - KEPT_DEAD) ids)) history) ≤ MOST_DEAD) [
      | true ↦ λ is. grind (arith, nat_tests)
      | false ↦ λ is.
          let less : k < length ids = grind (arith, nat_tests) in
          let later = nth ids k in
          let above : start ≤ later = nth_within (λ n. start ≤ n) ids k (each-imp (λ p. start < p.1) (λ p. start ≤ p.1) (λ p h. omega arith) ids (absent_above start history)) less in
          let few = above_place ids k (absent_rise start history) less in
          let many : MOST_DEAD < length ids = grind (arith, nat_tests) in
          subst (λ xs. length xs ≤ MOST_DEAD) (sym (absent_later start later history above)) (omega arith)
    ] refl

pub few_dead : (first : ℕ) (history : History) → length (dead first history) ≤ MOST_DEAD
few_dead first [] = omega arith
few_dead first (entry ∷ history) = few_after (start_of first history) (entry ∷ history)
