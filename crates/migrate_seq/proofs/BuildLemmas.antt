-- What building from a list of sequences does along the way.
use Rattle.std.proofs.Common.{◌≡◌, ℕ, zero, suc, ◌+◌, ◌*◌, ◌-◌, ◌<◌, ◌≤◌, Bool, true, false, ◌&&◌, ◌||◌, cond, Ordering, Less, Equal, Greater, is_eq, List, [], ◌∷◌, ◌++◌, length, get_or, take, drop, fold, Some, None, refl, sym, ap, ◌∙◌, arith}
use Rattle.std.specs.Prelude.{nat_eq}
use Rattle.std.specs.List.{list_any, list_all, insert}
use Rattle.std.specs.Ordering.{nat_cmp, is_lt, ordering_reverse}
use Rattle.std.specs.Cmp.Lexicographic.{slice_cmp}
use Rattle.std.specs.Str.{bytes_eq}
use Rattle.std.proofs.lemmas.Cmp.{nat_list_cmp_total}
use Rattle.std.proofs.lemmas.Map.Text.{is_eq-slice_cmp}
use Rattle.std.proofs.lemmas.Bool.Decides.{nat_tests}
use Rattle.std.proofs.Math.ListN.{drop_of_length-le}
use Rattle.std.proofs.Math.Seq.{take-suc, drop-cons}
use Rattle.migrate_steps.specs.declared.migration.Sequence.{Sequence}
use Rattle.migrate_seq.specs.Builds.{after_slash, inserted, by_id, doubled_after, doubled, have_rising_ids}
use Rattle.migrate_seq.proofs.OrderLemmas.{both_true}
use Rattle.rooms_val.proofs.Truths.{or_false, is_Less as less}

none_after : (xs : List ℕ) (i : ℕ) → i < length xs → after_slash (drop i xs) [] ≡ None
none_after [] i within = absurd (omega arith)
none_after (x ∷ xs) zero within = refl
none_after (x ∷ xs) (suc i) within = none_after xs i (omega arith)

-- an id that ends within its sequence's id has no version
pub out_of_bytes : (xs ys : List ℕ) (i : ℕ) → i < length xs → length ys ≤ i → after_slash (drop i xs) (drop i ys) ≡ None
out_of_bytes xs ys i within out = ap (after_slash (drop i xs)) (drop_of_length-le ys out) ∙ none_after xs i within

-- more digits make no smaller number
grown : (n : ℕ) (digits : List ℕ) → n ≤ fold (λ m c. 10 * m + (c - 48)) n digits
grown n [] = omega arith
grown n (c ∷ digits) = let rest = grown (10 * n + (c - 48)) digits in omega arith

-- a number that is too great with the next digit is too great with all
pub too_great : (digits : List ℕ) (i n number : ℕ) → i < length digits → number < 10 * n + (get_or digits i 0 - 48)
    → false ≡ nat_eq (fold (λ m c. 10 * m + (c - 48)) n (drop i digits)) number
too_great digits i n number within great =
    rw (drop-cons digits i 0 within) (let rest = grown (10 * n + (get_or digits i 0 - 48)) (drop (suc i) digits) in grind (arith, nat_tests))

-- a sequence whose id didn't stand before is passed
pub doubled_past : (list : List Sequence) (i : ℕ) (d : Sequence) → i < length list → list_any (λ t. bytes_eq t.id (get_or list i d).id) (take i list) ≡ false
    → doubled_after (take i list) (drop i list) ≡ doubled_after (take (suc i) list) (drop (suc i) list)
doubled_past list i d within none =
    ap (doubled_after (take i list)) (drop-cons list i d within)
    ∙ ap (λ b. cond b (Some (get_or list i d).id) (doubled_after (take i list ++ get_or list i d ∷ []) (drop (suc i) list))) none
    ∙ ap (λ before. doubled_after before (drop (suc i) list)) (sym (take-suc list i d within))

pub doubled_found : (list : List Sequence) (i : ℕ) (d : Sequence) → i < length list → list_any (λ t. bytes_eq t.id (get_or list i d).id) (take i list) ≡ true
    → doubled_after (take i list) (drop i list) ≡ Some (get_or list i d).id
doubled_found list i d within found =
    ap (doubled_after (take i list)) (drop-cons list i d within)
    ∙ ap (λ b. cond b (Some (get_or list i d).id) (doubled_after (take i list ++ get_or list i d ∷ []) (drop (suc i) list))) found

-- a sequence goes before the first one with a greater id
pub inserted_at : (s : Sequence) (ts : List Sequence) (i : ℕ) (d : Sequence) → i < length ts
    → ((k : ℕ) (e : Sequence) → k < i → is_lt (slice_cmp nat_cmp s.id (get_or ts k e).id) ≡ false)
    → is_lt (slice_cmp nat_cmp s.id (get_or ts i d).id) ≡ true → insert ts i s ≡ inserted s ts
inserted_at s [] i d within low high = absurd (omega arith)
inserted_at s (t ∷ ts) zero d within low high = ap (λ b. cond b (s ∷ t ∷ ts) (t ∷ inserted s ts)) (sym high)
inserted_at s (t ∷ ts) (suc i) d within low high =
    ap (λ rest. t ∷ rest) (inserted_at s ts i d (omega arith) (λ k e less. low (suc k) e (omega arith)) high)
    ∙ ap (λ b. cond b (s ∷ t ∷ ts) (t ∷ inserted s ts)) (sym (low 0 t (omega arith)))

-- a sequence with the greatest id goes to the end
pub inserted_last : (s : Sequence) (ts : List Sequence)
    → ((k : ℕ) (e : Sequence) → k < length ts → is_lt (slice_cmp nat_cmp s.id (get_or ts k e).id) ≡ false)
    → insert ts (length ts) s ≡ inserted s ts
inserted_last s [] low = refl
inserted_last s (t ∷ ts) low =
    ap (λ rest. t ∷ rest) (inserted_last s ts (λ k e less. low (suc k) e (omega arith)))
    ∙ ap (λ b. cond b (s ∷ t ∷ ts) (t ∷ inserted s ts)) (sym (low 0 t (omega arith)))

module _ (test : Sequence → Bool) where
  all_inserted : (s : Sequence) (ts : List Sequence) → test s ≡ true → list_all test ts ≡ true → list_all test (inserted s ts) ≡ true
  all_inserted s [] one each = λ i. one i && true
  all_inserted s (t ∷ ts) one each = elim (is_lt (slice_cmp nat_cmp s.id t.id)) as (λ b. list_all test (cond b (s ∷ t ∷ ts) (t ∷ inserted s ts)) ≡ true) [
    | true ↦ λ i. one i && each i
    | false ↦ let parts = both_true (test t) (list_all test ts) each in λ i. parts.0 i && all_inserted s ts one parts.1 i
  ]

  all_folded : (list sorted : List Sequence) → list_all test sorted ≡ true → list_all test list ≡ true → list_all test (fold (λ ts s. inserted s ts) sorted list) ≡ true
  all_folded [] sorted one each = one
  all_folded (s ∷ list) sorted one each =
      let parts = both_true (test s) (list_all test list) each in
      all_folded list (inserted s sorted) (all_inserted s sorted parts.0 one) parts.1

  -- what holds of each sequence holds of each in the order of their ids
  pub all-by_id : (list : List Sequence) → list_all test list ≡ true → list_all test (by_id list) ≡ true
  all-by_id list each = all_folded list [] refl each

exchanged : (a b c : Bool) → (a || (b || c)) ≡ (b || (a || c))
exchanged true true c = refl
exchanged true false c = refl
exchanged false b c = refl

-- a list with one more in its place holds that one beside the others
any_inserted : (test : Sequence → Bool) (s : Sequence) (ts : List Sequence) → list_any test (inserted s ts) ≡ (test s || list_any test ts)
any_inserted test s [] = refl
any_inserted test s (t ∷ ts) = elim (is_lt (slice_cmp nat_cmp s.id t.id)) as (λ b. list_any test (cond b (s ∷ t ∷ ts) (t ∷ inserted s ts)) ≡ (test s || (test t || list_any test ts))) [
  | true ↦ refl
  | false ↦ ap (λ b. test t || b) (any_inserted test s ts) ∙ exchanged (test t) (test s) (list_any test ts)
]

any_pushed : (test : Sequence → Bool) (before : List Sequence) (s : Sequence) → list_any test (before ++ s ∷ []) ≡ (test s || list_any test before)
any_pushed test [] s = refl
any_pushed test (t ∷ before) s = ap (λ b. test t || b) (any_pushed test before s) ∙ exchanged (test t) (test s) (list_any test before)

turned : (o : Ordering) → is_lt o ≡ false → is_eq o ≡ false → is_lt (ordering_reverse o) ≡ true
turned Less lt eq = cc
turned Equal lt eq = cc
turned Greater lt eq = refl

-- of two ids that differ, the one that isn't less is greater
greater : (x y : List ℕ) → is_lt (slice_cmp nat_cmp x y) ≡ false → bytes_eq y x ≡ false → is_lt (slice_cmp nat_cmp y x) ≡ true
greater x y low apart =
    let order = slice_cmp nat_cmp x y in
    let back = nat_list_cmp_total.antisymm y x in
    let differ : is_eq order ≡ false = sym (ap is_eq back ∙ is_eq-reverse order) ∙ is_eq-slice_cmp y x ∙ apart in
    ap is_lt back ∙ turned order low differ
  where
    is_eq-reverse : (o : Ordering) → is_eq (ordering_reverse o) ≡ is_eq o
    is_eq-reverse Less = refl
    is_eq-reverse Equal = refl
    is_eq-reverse Greater = refl

below_more : (s t : Sequence) (ts : List Sequence) → is_lt (slice_cmp nat_cmp s.id t.id) ≡ true
    → list_all (λ u. is_lt (slice_cmp nat_cmp t.id u.id)) ts ≡ true → list_all (λ u. is_lt (slice_cmp nat_cmp s.id u.id)) ts ≡ true
below_more s t [] low each = refl
below_more s t (u ∷ ts) low each =
    let parts = both_true (is_lt (slice_cmp nat_cmp t.id u.id)) _ each in
    let here = ap is_lt (nat_list_cmp_total.trans s.id t.id u.id (less _ low) (less _ parts.0)) in
    λ i. here i && below_more s t ts low parts.1 i

-- a sequence with an id of its own leaves the ids rising
rising_inserted : (s : Sequence) (ts : List Sequence) → have_rising_ids ts ≡ true → list_any (λ t. bytes_eq t.id s.id) ts ≡ false → have_rising_ids (inserted s ts) ≡ true
rising_inserted s [] rises apart = refl
rising_inserted s (t ∷ ts) rises apart =
    let parts = both_true (list_all (λ u. is_lt (slice_cmp nat_cmp t.id u.id)) ts) (have_rising_ids ts) rises in
    let differ = or_false (bytes_eq t.id s.id) (list_any (λ u. bytes_eq u.id s.id) ts) apart in
    elim (is_lt (slice_cmp nat_cmp s.id t.id)) as (λ b. is_lt (slice_cmp nat_cmp s.id t.id) ≡ b → have_rising_ids (cond b (s ∷ t ∷ ts) (t ∷ inserted s ts)) ≡ true) [
      | true ↦ λ low i. (low i && below_more s t ts low parts.0 i) && rises i
      | false ↦ λ high i. all_inserted (λ u. is_lt (slice_cmp nat_cmp t.id u.id)) s ts (greater s.id t.id high differ.0) parts.0 i && rising_inserted s ts parts.1 differ.1 i
    ] refl

rising_folded : (list before sorted : List Sequence) → have_rising_ids sorted ≡ true
    → ((test : Sequence → Bool) → list_any test sorted ≡ list_any test before) → doubled_after before list ≡ None → have_rising_ids (fold (λ ts s. inserted s ts) sorted list) ≡ true
rising_folded [] before sorted rises same none = rises
rising_folded (s ∷ list) before sorted rises same none = elim (list_any (λ t. bytes_eq t.id s.id) before) as (λ b. list_any (λ t. bytes_eq t.id s.id) before ≡ b
    → cond b (Some s.id) (doubled_after (before ++ s ∷ []) list) ≡ None → have_rising_ids (fold (λ ts s. inserted s ts) (inserted s sorted) list) ≡ true) [
      | true ↦ λ _ given. cc
      | false ↦ λ apart rest. rising_folded list (before ++ s ∷ []) (inserted s sorted) (rising_inserted s sorted rises (same (λ t. bytes_eq t.id s.id) ∙ apart))
          (λ test. any_inserted test s sorted ∙ ap (λ b. test s || b) (same test) ∙ sym (any_pushed test before s)) rest
    ] refl none

-- where no id stood before, the ids rise
pub rising-by_id : (list : List Sequence) → doubled list ≡ None → have_rising_ids (by_id list) ≡ true
rising-by_id list none = rising_folded list [] [] refl (λ test. refl) none
