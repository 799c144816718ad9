-- Places of migrations: their order, those that are missed among all, and what stands at one.
use Rattle.std.proofs.Common.{◌≡◌, ℕ, zero, suc, ◌+◌, ◌-◌, ◌<◌, ◌≤◌, Bool, true, false, not, ◌&&◌, ◌||◌, List, [], ◌∷◌, ◌++◌, length, drop, Option, Some, None, Ok, Err, refl, sym, ap, subst, ◌∙◌, unwrap_or, zero-add, inl, inr, arith}
use Rattle.std.specs.Prelude.{nat_eq, slice_get}
use Rattle.std.specs.List.{list_any, list_all}
use Rattle.std.specs.Option.{option_map_or, option_and_then}
use Rattle.std.proofs.lemmas.Bool.Decides.{nat_tests}
use Rattle.std.proofs.lemmas.Bool.{cases_lt}
use Rattle.migrate_steps.specs.declared.migration.Migration.{Migration}
use Rattle.migrate_steps.specs.declared.migration.Sequence.{Sequence}
use Rattle.migrate_seq.specs.declared.fault.PlanFault.{PlanFault}
use Rattle.migrate_seq.specs.declared.place.Place.{Place}
use Rattle.migrate_seq.specs.Order.{first_some}
use Rattle.migrate_seq.specs.Plans.{comes_before, places_from, missing_from, missing, places_of, first_missing, migration_at, follows, is_acyclic, can_all_scale, plan_of, IsPlan, refusal}
use Rattle.migrate_steps.specs.Steps.{can_scale}
use Rattle.migrate_seq.specs.Versions.{Versions}
use Rattle.migrate_seq.proofs.OrderLemmas.{count, count-append, both_true, is_rising, IsWithin, all_taken, order_holds, one_order}

pub not_before_itself : (a : Place) → comes_before a a ≡ false
not_before_itself a = grind (arith, nat_tests)

pub apart : (a b : Place) → comes_before a b ≡ false → comes_before b a ≡ false → a ≡ b
apart a b one other =
    let rows : a.sequence ≡ b.sequence = grind (arith, nat_tests) in
    let seats : a.migration ≡ b.migration = grind (arith, nat_tests) in
    λ i. record { sequence = rows i; migration = seats i }

-- the places are in sequences from the i-th on
abbrev IsFrom : ℕ → List Place → Type 0
IsFrom i [] = Unit {0}
IsFrom i (p ∷ ps) = (i ≤ p.sequence) × IsFrom i ps

from_append : (i : ℕ) (ps qs : List Place) → IsFrom i ps → IsFrom i qs → IsFrom i (ps ++ qs)
from_append i [] qs one other = other
from_append i (p ∷ ps) qs one other = (one.0, from_append i ps qs one.1 other)

from_places : (i k n : ℕ) → IsFrom i (places_from i k n)
from_places i k zero = tt
from_places i k (suc n) = (omega arith, from_places i (suc k) n)

from_missing : (held : Versions) (i j : ℕ) (seqs : List Sequence) → i ≤ j → IsFrom i (missing_from held j seqs)
from_missing held i j [] low = tt
from_missing held i j (s ∷ seqs) low =
    from_append i (places_from j (first_missing held s) (length s.migrations.items - first_missing held s)) _ (raised i j (first_missing held s) (length s.migrations.items - first_missing held s) low) (from_missing held i (suc j) seqs (omega arith))
  where
    raised : (i j k n : ℕ) → i ≤ j → IsFrom i (places_from j k n)
    raised i j k zero low = tt
    raised i j k (suc n) low = (low, raised i j (suc k) n low)

-- nothing in a later sequence comes before a place
none_before : (i k : ℕ) (ps : List Place) → IsFrom (suc i) ps → list_any (λ q. comes_before q (record { sequence = i; migration = k })) ps ≡ false
none_before i k [] later = refl
none_before i k (p ∷ ps) later =
    let high = later.0 in
    let here : comes_before p (record { sequence = i; migration = k }) ≡ false = grind (arith, nat_tests) in
    λ t. here t || none_before i k ps later.1 t

none_behind : (i k m n : ℕ) (ps : List Place) → k ≤ m → IsFrom (suc i) ps → list_any (λ q. comes_before q (record { sequence = i; migration = k })) (places_from i m n ++ ps) ≡ false
none_behind i k m zero ps low later = none_before i k ps later
none_behind i k m (suc n) ps low later =
    let here : comes_before (record { sequence = i; migration = m }) (record { sequence = i; migration = k }) ≡ false = grind (arith, nat_tests) in
    λ t. here t || none_behind i k (suc m) n ps (omega arith) later t

rising_append : (i k n : ℕ) (ps : List Place) → IsFrom (suc i) ps → is_rising comes_before ps ≡ true → is_rising comes_before (places_from i k n ++ ps) ≡ true
rising_append i k zero ps later rises = rises
rising_append i k (suc n) ps later rises = λ t. not (none_behind i k (suc k) n ps (omega arith) later t) && rising_append i (suc k) n ps later rises t

-- what is missed stands in the order of the names
pub rising_missing : (held : Versions) (i : ℕ) (seqs : List Sequence) → is_rising comes_before (missing_from held i seqs) ≡ true
rising_missing held i [] = refl
rising_missing held i (s ∷ seqs) =
    rising_append i (first_missing held s) (length s.migrations.items - first_missing held s) _ (from_missing held (suc i) (suc i) seqs (omega arith)) (rising_missing held (suc i) seqs)

later_places : (test : Place → Bool) (i m k n : ℕ) → count test (places_from i (m + k) n) ≤ count test (places_from i k (m + n))
later_places test i zero k n = rw (zero-add k, zero-add n) (omega arith)
later_places test i (suc m) k n =
    let rest = later_places test i m (suc k) n in
    let seat : suc m + k ≡ m + suc k = omega arith in
    let more : suc m + n ≡ suc (m + n) = omega arith in
    rw (seat, more) (omega arith)

few_places : (test : Place → Bool) (i f n : ℕ) → count test (places_from i f (n - f)) ≤ count test (places_from i 0 n)
few_places test i f n = elim (cases_lt n f) [
  | inl past ↦ let none : n - f ≡ 0 = omega arith in rw none (omega arith)
  | inr within ↦
      let low = later_places test i f 0 (n - f) in
      let seat : f + 0 ≡ f = omega arith in
      let all : f + (n - f) ≡ n = omega arith in
      subst (λ k. count test (places_from i k (n - f)) ≤ count test (places_from i 0 n)) seat (subst (λ k. count test (places_from i (f + 0) (n - f)) ≤ count test (places_from i 0 k)) all low)
]

-- what is missed is among all places
pub missing_within : (held : Versions) (i : ℕ) (seqs : List Sequence) → IsWithin (missing_from held i seqs) (places_of i seqs)
missing_within held i [] test = omega arith
missing_within held i (s ∷ seqs) test =
    let first = first_missing held s in
    let n = length s.migrations.items in
    let here = few_places test i first n in
    let rest = missing_within held (suc i) seqs test in
    let one = count-append test (places_from i first (n - first)) (missing_from held (suc i) seqs) in
    let other = count-append test (places_from i 0 n) (places_of (suc i) seqs) in
    omega arith

empty : {X : Type 0} (xs : List X) → nat_eq (length xs) 0 ≡ true → xs ≡ []
empty [] is = refl
empty (x ∷ xs) is = let none : length (x ∷ xs) ≡ 0 = grind (arith, nat_tests) in absurd (omega arith)

-- the missing ones in order are the plan
pub plan_holds : (seqs : List Sequence) (held : Versions) → is_acyclic seqs ≡ true → IsPlan seqs held (plan_of seqs held)
plan_holds seqs held acyclic =
    order_holds (follows seqs) comes_before not_before_itself (missing seqs held) (rising_missing held 0 seqs)
    (all_taken (follows seqs) (missing seqs held) (places_of 0 seqs) (missing_within held 0 seqs) (empty _ acyclic))

pub one_plan : (seqs : List Sequence) (held : Versions) (plan other : List Place) → IsPlan seqs held plan → IsPlan seqs held other → other ≡ plan
one_plan seqs held plan other one two = one_order (follows seqs) comes_before apart (missing seqs held) other plan two one

-- the place before some others
pub places_from-less : (s m e : ℕ) → m < e → places_from s m (e - m) ≡ record { sequence = s; migration = m } ∷ places_from s (m + 1) (e - (m + 1))
places_from-less s m e low =
    let more : e - m ≡ suc (e - (m + 1)) = omega arith in
    let next : m + 1 ≡ suc m = omega arith in
    rw (more, next) refl

all_at : {X : Type 0} (test : X → Bool) (xs : List X) (i : ℕ) (x : X) → list_all test xs ≡ true → Some x ≡ slice_get xs i → test x ≡ true
all_at test [] i x all is = cc
all_at test (y ∷ ys) zero x all is = let same : Some x ≡ Some y = is in let each = both_true (test y) (list_all test ys) all in subst (λ z. test z ≡ true) (ap (λ o. unwrap_or o x) (sym same)) each.0
all_at test (y ∷ ys) (suc i) x all is = all_at test ys i x (both_true (test y) (list_all test ys) all).1 is

-- the steps at a place can be scaled where all can
pub scales_at : (seqs : List Sequence) (p : Place) (m : Migration) → can_all_scale seqs ≡ true → Some m ≡ migration_at seqs p → list_all can_scale m.steps.items ≡ true
scales_at seqs p m all is = elim (slice_get seqs p.sequence) as (λ o. o ≡ slice_get seqs p.sequence → Some m ≡ option_and_then (λ s. slice_get s.migrations.items p.migration) o → list_all can_scale m.steps.items ≡ true) [
  | None ↦ λ _ never. cc
  | Some s ↦ λ found there. all_at (λ n. list_all can_scale n.steps.items) s.migrations.items p.migration m (all_at (λ t. list_all (λ n. list_all can_scale n.steps.items) t.migrations.items) seqs p.sequence s all found) there
] refl is

-- the elements from a place on, where there is one
pub drop-slice_get : {X : Type 0} (xs : List X) (i : ℕ) (x : X) → Some x ≡ slice_get xs i → drop i xs ≡ x ∷ drop (suc i) xs
drop-slice_get [] i x is = cc
drop-slice_get (y ∷ ys) zero x is = let same : Some x ≡ Some y = is in ap (λ z. z ∷ ys) (ap (λ o. unwrap_or o x) (sym same))
drop-slice_get (y ∷ ys) (suc i) x is = drop-slice_get ys i x is

module _ {X : Type 0} (f : X → Option PlanFault) (xs : List X) (i : ℕ) (x : X) (is : Some x ≡ slice_get xs i) where
  -- an element that isn't at fault is passed
  pub passed : refusal (f x) ≡ Ok tt → first_some f (drop i xs) ≡ first_some f (drop (suc i) xs)
  passed ok = ap (first_some f) (drop-slice_get xs i x is) ∙ elim (f x) as (λ o. refusal o ≡ Ok tt → option_map_or Some o (first_some f (drop (suc i) xs)) ≡ first_some f (drop (suc i) xs)) [
    | None ↦ λ _. refl
    | Some e ↦ λ given. cc
  ] ok

  -- the first one at fault is answered
  pub refused : (e : PlanFault) → refusal (f x) ≡ Err e → refusal (first_some f (drop i xs)) ≡ Err e
  refused e err = ap (λ ys. refusal (first_some f ys)) (drop-slice_get xs i x is) ∙ elim (f x) as (λ o. refusal o ≡ Err e → refusal (option_map_or Some o (first_some f (drop (suc i) xs))) ≡ Err e) [
    | None ↦ λ given. cc
    | Some d ↦ λ given. given
  ] err
