-- What taking the first free one again and again gives: the one list that has the least free one at each place.
use Rattle.std.proofs.Common.{◌≡◌, ℕ, zero, suc, ◌+◌, ◌<◌, ◌≤◌, Bool, true, false, not, ◌&&◌, ◌||◌, cond, List, [], ◌∷◌, ◌++◌, length, get_or, Option, Some, None, option_map, unwrap_or, refl, sym, ap, subst, ◌∙◌, arith, length-append, append_assoc, zero-add}
use Rattle.std.specs.Prelude.{count_by}
use Rattle.std.specs.List.{list_any, remove}
use Rattle.std.specs.Option.{option_map_or}
use Rattle.std.proofs.lemmas.List.Sums.{sum_by-cons}
use Rattle.migrate_seq.specs.Order.{picked, is_free, taken_and_left, in_order, never_taken, is_least_free, HasLeastFirst, IsOrderOf}
use Rattle.rooms_val.proofs.Truths.{unnot_true}

never_none : {Y : Type 0} (y : Y) → Some y ≡ None → ⊥
never_none y is = cc

pub both_true : (a b : Bool) → (a && b) ≡ true → (a ≡ true) × (b ≡ true)
both_true true b is = (refl, is)
both_true false b is = cc

never_both : (b : Bool) → ◌≡◌ {A = ℕ} (cond (b && false) 1 0) 0
never_both true = refl
never_both false = refl

uncounted : (b : Bool) → ◌≡◌ {A = ℕ} (cond (true && b) 1 0) 0 → b ≡ false
uncounted true is = absurd (omega arith)
uncounted false is = refl

by_cases : (a b : Bool) → (a ≡ false → b ≡ false) → (b ≡ false → a ≡ false) → a ≡ b
by_cases true true f g = refl
by_cases true false f g = g refl
by_cases false true f g = sym (f refl)
by_cases false false f g = refl

module _ {X : Type 0} where
  -- how many pass a test, by recursion
  abbrev pub count : (X → Bool) → List X → ℕ
  count test [] = 0
  count test (x ∷ xs) = cond (test x) 1 0 + count test xs

  pub count-is : (test : X → Bool) (xs : List X) → count_by test xs ≡ count test xs
  count-is test [] = refl
  count-is test (x ∷ xs) = sum_by-cons (λ y. cond (test y) 1 0) x xs ∙ ap (λ n. cond (test x) 1 0 + n) (count-is test xs)

  pub count-append : (p : X → Bool) (xs ys : List X) → count p (xs ++ ys) ≡ count p xs + count p ys
  count-append p [] ys = omega arith
  count-append p (x ∷ xs) ys = let rest = count-append p xs ys in omega arith

  -- a test that another test implies counts no more
  count-le : (p q : X → Bool) → ((x : X) → p x ≡ true → q x ≡ true) → (xs : List X) → count p xs ≤ count q xs
  count-le p q h [] = omega arith
  count-le p q h (x ∷ xs) =
      let rest = count-le p q h xs in
      let here : cond (p x) 1 0 ≤ cond (q x) 1 0 = elim (p x) as (λ b. (b ≡ true → q x ≡ true) → cond b 1 0 ≤ cond (q x) 1 0) [
        | true ↦ λ is. rw (is refl) (omega arith)
        | false ↦ λ _. omega arith
      ] (h x) in
      omega arith

  -- no element passes exactly where the count is 0
  pub none_counted : (p : X → Bool) (xs : List X) → list_any p xs ≡ false → count p xs ≡ 0
  none_counted p [] none = refl
  none_counted p (x ∷ xs) none = elim (p x) as (λ b. (b || list_any p xs) ≡ false → cond b 1 0 + count p xs ≡ 0) [
    | true ↦ λ is. cc
    | false ↦ λ is. let rest = none_counted p xs is in omega arith
  ] none

  pub counted_none : (p : X → Bool) (xs : List X) → count p xs ≡ 0 → list_any p xs ≡ false
  counted_none p [] zero_is = refl
  counted_none p (x ∷ xs) zero_is = elim (p x) as (λ b. cond b 1 0 + count p xs ≡ 0 → (b || list_any p xs) ≡ false) [
    | true ↦ λ is. absurd (omega arith)
    | false ↦ λ is. counted_none p xs (omega arith)
  ] zero_is

  -- the lists hold the same, each as often
  abbrev pub AreSame : List X → List X → Type 0
  AreSame xs ys = (test : X → Bool) → count test xs ≡ count test ys

  -- the one list holds nothing that the other doesn't hold as often
  abbrev pub IsWithin : List X → List X → Type 0
  IsWithin xs ys = (test : X → Bool) → count test xs ≤ count test ys

  any_same : (xs ys : List X) → AreSame xs ys → (p : X → Bool) → list_any p xs ≡ list_any p ys
  any_same xs ys same p = by_cases _ _
      (λ none. counted_none p ys (sym (same p) ∙ none_counted p xs none))
      (λ none. counted_none p xs (same p ∙ none_counted p ys none))

  -- what was picked: it stands after those that don't pass
  record Split (test : X → Bool) (xs : List X) (p : X × List X) : Type 0 where
    front : List X
    back : List X
    whole : xs ≡ front ++ p.0 ∷ back
    others : p.1 ≡ front ++ back
    passes : test p.0 ≡ true
    before : count test front ≡ 0

  split : (test : X → Bool) (xs : List X) (p : X × List X) → picked test xs ≡ Some p → Split test xs p
  split test [] p is = cc
  split test (x ∷ xs) p is = elim (test x) as (λ b. test x ≡ b → cond b (Some (x, xs)) (option_map (λ q. (q.0, x ∷ q.1)) (picked test xs)) ≡ Some p → Split test (x ∷ xs) p) [
    | true ↦ λ passes here.
        let pair : (x, xs) ≡ p = ap (λ o. unwrap_or o p) here in
        subst (λ q. Split test (x ∷ xs) q) pair (record { front = []; back = xs; whole = refl; others = refl; passes = passes; before = refl })
    | false ↦ λ fails there. elim (picked test xs) as (λ o. picked test xs ≡ o → option_map (λ q. (q.0, x ∷ q.1)) o ≡ Some p → Split test (x ∷ xs) p) [
      | None ↦ λ _ never. cc
      | Some q ↦ λ found given.
          let pair : (q.0, x ∷ q.1) ≡ p = ap (λ o. unwrap_or o p) given in
          let s : Split test xs q = split test xs q found in
          subst (λ r. Split test (x ∷ xs) r) pair (record {
            front = x ∷ s.front;
            back = s.back;
            whole = ap (λ r. x ∷ r) s.whole;
            others = ap (λ r. x ∷ r) s.others;
            passes = s.passes;
            before = ap (λ b. cond {A = ℕ} b 1 0 + count test s.front) fails ∙ zero-add (count test s.front) ∙ s.before;
          })
    ] refl there
  ] refl is

  picked_passes : (test : X → Bool) (xs : List X) (p : X × List X) → picked test xs ≡ Some p → test p.0 ≡ true
  picked_passes test xs p is = let s = split test xs p is in s.passes

  pub count-picked : (test : X → Bool) (xs : List X) (p : X × List X) → picked test xs ≡ Some p → AreSame xs (p.0 ∷ p.1)
  count-picked test xs p is other =
      let s = split test xs p is in
      let whole : count other xs ≡ count other s.front + count other (p.0 ∷ s.back) = ap (count other) s.whole ∙ count-append other s.front (p.0 ∷ s.back) in
      let rest : count other p.1 ≡ count other s.front + count other s.back = ap (count other) s.others ∙ count-append other s.front s.back in
      omega (arith, whole, rest)

  pub length-picked : (test : X → Bool) (xs : List X) (p : X × List X) → picked test xs ≡ Some p → length xs ≡ suc (length p.1)
  length-picked test xs p is =
      let s = split test xs p is in
      let whole : length xs ≡ length s.front + length (p.0 ∷ s.back) = ap length s.whole ∙ length-append s.front (p.0 ∷ s.back) in
      let rest : length p.1 ≡ length s.front + length s.back = ap length s.others ∙ length-append s.front s.back in
      omega (arith, whole, rest)

  abbrev behind : X → Option (X × List X) → Option (X × List X)
  behind x o = option_map (λ q. (q.0, x ∷ q.1)) o

  pub none_picked : (test : X → Bool) (xs : List X) → picked test xs ≡ None → list_any test xs ≡ false
  none_picked test [] is = refl
  none_picked test (x ∷ xs) is = elim (test x) as (λ b. cond b (Some (x, xs)) (behind x (picked test xs)) ≡ None → (b || list_any test xs) ≡ false) [
    | true ↦ λ here. cc
    | false ↦ λ there. elim (picked test xs) as (λ o. picked test xs ≡ o → behind x o ≡ None → list_any test xs ≡ false) [
      | None ↦ λ none _. none_picked test xs none
      | Some q ↦ λ _ given. absurd (never_none {Y = X × List X} (q.0, x ∷ q.1) given)
    ] refl there
  ] is

  -- where no element passes, as many pass beside a test as pass it
  bound_all : (free : X → Bool) (test : X → Bool) (xs : List X) → count free xs ≡ 0 → count test xs ≡ count (λ y. test y && not (free y)) xs
  bound_all free test [] none = refl
  bound_all free test (x ∷ xs) none = elim (free x) as (λ b. cond b 1 0 + count free xs ≡ 0 → cond (test x) 1 0 + count test xs ≡ cond (test x && not b) 1 0 + count (λ y. test y && not (free y)) xs) [
    | true ↦ λ is. absurd (omega arith)
    | false ↦ λ is. let rest = bound_all free test xs (omega arith) in elim (test x) as (λ b. cond b 1 0 + count test xs ≡ cond (b && true) 1 0 + count (λ y. test y && not (free y)) xs) [ true ↦ omega arith | false ↦ omega arith ]
  ] none

  -- where none passes, none is picked
  pub picked_none : (test : X → Bool) (xs : List X) → ((k : ℕ) (d : X) → k < length xs → test (get_or xs k d) ≡ false) → picked test xs ≡ None
  picked_none test [] fails = refl
  picked_none test (x ∷ xs) fails =
      ap (λ b. cond b (Some (x, xs)) (option_map (λ q. (q.0, x ∷ q.1)) (picked test xs))) (fails 0 x (omega arith))
      ∙ ap (option_map (λ q. (q.0, x ∷ q.1))) (picked_none test xs (λ k d low. fails (suc k) d (omega arith)))

  -- the first place that passes is picked, and the others are left
  pub picked_at : (test : X → Bool) (xs : List X) (i : ℕ) (d : X) → i < length xs → ((k : ℕ) (e : X) → k < i → test (get_or xs k e) ≡ false)
      → test (get_or xs i d) ≡ true → picked test xs ≡ Some (get_or xs i d, remove xs i)
  picked_at test [] i d within fails passes = absurd (omega arith)
  picked_at test (x ∷ xs) zero d within fails passes = ap (λ b. cond b (Some (x, xs)) (option_map (λ q. (q.0, x ∷ q.1)) (picked test xs))) passes
  picked_at test (x ∷ xs) (suc i) d within fails passes =
      ap (λ b. cond b (Some (x, xs)) (option_map (λ q. (q.0, x ∷ q.1)) (picked test xs))) (fails 0 x (omega arith))
      ∙ ap (option_map (λ q. (q.0, x ∷ q.1))) (picked_at test xs i d (omega arith) (λ k e low. fails (suc k) e (omega arith)) passes)

module _ {X : Type 0} (before : X → X → Bool) where
  -- no element comes before an earlier one
  abbrev pub is_rising : List X → Bool
  is_rising [] = true
  is_rising (x ∷ xs) = not (list_any (λ y. before y x) xs) && is_rising xs

module _ {X : Type 0} (follows : X → X → Bool) where
  free_same : (xs ys : List X) → AreSame xs ys → is_free follows xs ≡ is_free follows ys
  free_same xs ys same = λ i x. not (any_same xs ys same (follows x) i)

  -- what is free is left free by taking others away
  free_within : (xs ys : List X) (x : X) → IsWithin xs ys → is_free follows ys x ≡ true → is_free follows xs x ≡ true
  free_within xs ys x within free =
      let none : list_any (follows x) ys ≡ false = not_true _ free in
      ap not (counted_none (follows x) xs (let low = within (follows x) in let zero_is = none_counted (follows x) ys none in omega arith))
    where
      not_true : (b : Bool) → not b ≡ true → b ≡ false
      not_true true is = cc
      not_true false is = refl

  pub taken-some : (n : ℕ) (xs : List X) (p : X × List X) → picked (is_free follows xs) xs ≡ Some p
      → taken_and_left follows (suc n) xs ≡ (p.0 ∷ (taken_and_left follows n p.1).0, (taken_and_left follows n p.1).1)
  taken-some n xs p is = ap (λ o. option_map_or (λ q. (q.0 ∷ (taken_and_left follows n q.1).0, (taken_and_left follows n q.1).1)) o ([], xs)) is

  pub taken-none : (n : ℕ) (xs : List X) → picked (is_free follows xs) xs ≡ None → taken_and_left follows n xs ≡ ([], xs)
  taken-none zero xs is = refl
  taken-none (suc n) xs is = ap (λ o. option_map_or (λ q. (q.0 ∷ (taken_and_left follows n q.1).0, (taken_and_left follows n q.1).1)) o ([], xs)) is

  -- one more was taken
  pub taken_more : (taken left rest : List X) (x : X) → Some (x, rest) ≡ picked (is_free follows left) left
      → let r = taken_and_left follows (length left) left in let q = taken_and_left follows (length rest) rest in
      ◌≡◌ {A = List X × List X} (taken ++ r.0, r.1) ((taken ++ x ∷ []) ++ q.0, q.1)
  taken_more taken left rest x is =
      let q = taken_and_left follows (length rest) rest in
      let run : ◌≡◌ {A = List X × List X} (taken_and_left follows (length left) left) (x ∷ q.0, q.1) =
      ap (λ n. taken_and_left follows n left) (length-picked (is_free follows left) left (x, rest) (sym is)) ∙ taken-some (length rest) left (x, rest) (sym is) in
      ap (λ r. (taken ++ r.0, r.1)) run ∙ ap (λ l. (l, q.1)) (sym (append_assoc taken (x ∷ []) q.0))

  -- one step of taking, by cases on what is picked
  by_pick : (P : List X × List X → Type 0) (n : ℕ) (xs : List X)
      → (picked (is_free follows xs) xs ≡ None → P ([], xs))
      → ((p : X × List X) → picked (is_free follows xs) xs ≡ Some p → P (p.0 ∷ (taken_and_left follows n p.1).0, (taken_and_left follows n p.1).1))
      → P (taken_and_left follows (suc n) xs)
  by_pick P n xs none some = elim (picked (is_free follows xs) xs) as (λ o. picked (is_free follows xs) xs ≡ o → P (taken_and_left follows (suc n) xs)) [
    | None ↦ λ is. subst P (sym (taken-none (suc n) xs is)) (none is)
    | Some p ↦ λ is. subst P (sym (taken-some n xs p is)) (some p is)
  ] refl

  -- nothing is lost and nothing comes in
  pub count-taken : (n : ℕ) (xs : List X) (test : X → Bool)
      → count test xs ≡ count test (taken_and_left follows n xs).0 + count test (taken_and_left follows n xs).1
  count-taken zero xs test = omega arith
  count-taken (suc n) xs test = by_pick (λ r. count test xs ≡ count test r.0 + count test r.1) n xs
      (λ none. omega arith)
      (λ p is. let whole = count-picked (is_free follows xs) xs p is test in let rest = count-taken n p.1 test in omega arith)

  -- after as many steps as there are elements, none that is left is free
  none_free_left : (n : ℕ) (xs : List X) → length xs ≤ n → let left = (taken_and_left follows n xs).1 in list_any (is_free follows left) left ≡ false
  none_free_left zero [] low = refl
  none_free_left zero (x ∷ xs) low = absurd (omega arith)
  none_free_left (suc n) xs low = by_pick (λ r. list_any (is_free follows r.1) r.1 ≡ false) n xs
      (λ none. none_picked (is_free follows xs) xs none)
      (λ p is. let whole = length-picked (is_free follows xs) xs p is in none_free_left n p.1 (omega arith))

  -- what has no free element among itself is never taken
  stuck : (n : ℕ) (ys xs : List X) → list_any (is_free follows ys) ys ≡ false → IsWithin ys xs → IsWithin ys (taken_and_left follows n xs).1
  stuck zero ys xs none within = within
  stuck (suc n) ys xs none within = by_pick (λ r. IsWithin ys r.1) n xs (λ _. within) (λ p is. stuck n ys p.1 none (without p is))
    where
      without : (p : X × List X) → picked (is_free follows xs) xs ≡ Some p → IsWithin ys p.1
      without p is test =
          let bound : X → Bool = λ y. test y && not (is_free follows ys y) in
          let free = free_within ys xs p.0 within (picked_passes (is_free follows xs) xs p is) in
          let out : ◌≡◌ {A = ℕ} (cond (bound p.0) 1 0) 0 = ap (λ b. cond {A = ℕ} (test p.0 && not b) 1 0) free ∙ never_both (test p.0) in
          let all = bound_all (is_free follows ys) test ys (none_counted (is_free follows ys) ys none) in
          let low = within bound in
          let whole = count-picked (is_free follows xs) xs p is bound in
          let rest = count-le bound test (λ y. both (test y) (not (is_free follows ys y))) p.1 in
          omega arith
        where
          both : (a b : Bool) → (a && b) ≡ true → a ≡ true
          both true b is = refl
          both false b is = cc

  -- among a list of which a part is never left, a part is taken whole
  pub all_taken : (xs ys : List X) → IsWithin xs ys → never_taken follows ys ≡ [] → never_taken follows xs ≡ []
  all_taken xs ys within none =
      let left = never_taken follows xs in
      let still : IsWithin left ys = λ test. let part = count-taken (length xs) xs test in let low = within test in omega arith in
      let kept = stuck (length ys) left ys (none_free_left (length xs) xs (omega arith)) still (λ _. true) in
      empty left (subst (λ l. count (λ _. true) left ≤ count (λ _. true) l) none kept)
    where
      empty : (l : List X) → count (λ _. true) l ≤ 0 → l ≡ []
      empty [] low = refl
      empty (x ∷ l) low = absurd (omega arith)

  module _ (before : X → X → Bool) where
    least_same : (xs ys : List X) → AreSame xs ys → (x : X) → is_least_free follows before xs x ≡ is_least_free follows before ys x
    least_same xs ys same x =
        let free = free_same xs ys same in
        ap (λ f. f x && not (list_any (λ y. f y && before y x) xs)) free
        ∙ ap (λ b. is_free follows ys x && not b) (any_same xs ys same (λ y. is_free follows ys y && before y x))

    -- in a rising list nothing after an element comes before it, and the rest rises without it
    rising_at : (front : List X) (x : X) (back : List X) → is_rising before (front ++ x ∷ back) ≡ true
        → (count (λ y. before y x) back ≡ 0) × (is_rising before (front ++ back) ≡ true)
    rising_at [] x back rises = let each = both_true _ _ rises in (none_counted (λ y. before y x) back (unnot_true _ each.0), each.1)
    rising_at (z ∷ front) x back rises =
        let each = both_true _ _ rises in
        let later = rising_at front x back each.1 in
        let none = none_counted (λ y. before y z) (front ++ x ∷ back) (unnot_true _ each.0) in
        let whole = count-append (λ y. before y z) front (x ∷ back) in
        let rest = count-append (λ y. before y z) front back in
        let zero_is : count (λ y. before y z) (front ++ back) ≡ 0 = omega arith in
        (later.0, λ i. not (counted_none (λ y. before y z) (front ++ back) zero_is i) && later.1 i)

    module _ (irreflexive : (x : X) → before x x ≡ false) where
      picked_least : (xs : List X) (p : X × List X) → is_rising before xs ≡ true → picked (is_free follows xs) xs ≡ Some p
          → (is_least_free follows before xs p.0 ≡ true) × (is_rising before p.1 ≡ true)
      picked_least xs p rises is =
          let s = split (is_free follows xs) xs p is in
          let test : X → Bool = λ y. is_free follows xs y && before y p.0 in
          let later = rising_at s.front p.0 s.back (sym (ap (is_rising before) s.whole) ∙ rises) in
          let earlier = count-le test (is_free follows xs) (λ y. λ both. (both_true (is_free follows xs y) (before y p.0) both).0) s.front in
          let behind = count-le test (λ y. before y p.0) (λ y. λ both. (both_true (is_free follows xs y) (before y p.0) both).1) s.back in
          let here : ◌≡◌ {A = ℕ} (cond (test p.0) 1 0) 0 = ap (λ b. cond {A = ℕ} (is_free follows xs p.0 && b) 1 0) (irreflexive p.0) ∙ never_both (is_free follows xs p.0) in
          let whole : count test xs ≡ count test s.front + count test (p.0 ∷ s.back) = ap (count test) s.whole ∙ count-append test s.front (p.0 ∷ s.back) in
          let none_before = s.before in
          let none_behind = later.0 in
          let zero_is : count test xs ≡ 0 = omega arith in
          ((λ i. s.passes i && not (counted_none test xs zero_is i)), ap (is_rising before) s.others ∙ later.1)

      least_first : (n : ℕ) (xs : List X) → is_rising before xs ≡ true → (taken_and_left follows n xs).1 ≡ [] → HasLeastFirst follows before (taken_and_left follows n xs).0
      least_first zero xs rises none = tt
      least_first (suc n) xs rises all = by_pick (λ r. r.1 ≡ [] → HasLeastFirst follows before r.0) n xs (λ _ _. tt) (λ p is none.
          let least = picked_least xs p rises is in
          let order = taken_and_left follows n p.1 in
          let same : AreSame xs (p.0 ∷ order.0) = λ test.
          let whole = count-picked (is_free follows xs) xs p is test in
          let rest = count-taken n p.1 test in
          let nothing : count test order.1 ≡ 0 = ap (count test) none in
          omega arith in
          (sym (least_same xs (p.0 ∷ order.0) same p.0) ∙ least.0, least_first n p.1 least.1 none)) all

      -- where all are taken, the list is the order
      pub order_holds : (xs : List X) → is_rising before xs ≡ true → never_taken follows xs ≡ [] → IsOrderOf follows before xs (in_order follows xs)
      order_holds xs rises none = record {
        same = λ test. let whole = count-taken (length xs) xs test in let nothing : count test (never_taken follows xs) ≡ 0 = ap (count test) none in
            count-is test xs ∙ omega arith ∙ sym (count-is test (in_order follows xs));
        least_first = least_first (length xs) xs rises none;
      }

    module _ (apart : (x y : X) → before x y ≡ false → before y x ≡ false → x ≡ y) where
      -- one of two least free ones doesn't come before the other
      not_before : (x y : X) (xs ys : List X) → AreSame (x ∷ xs) (y ∷ ys) → is_least_free follows before (x ∷ xs) x ≡ true
          → is_least_free follows before (y ∷ ys) y ≡ true → before y x ≡ false
      not_before x y xs ys same least other =
          let test : X → Bool = λ z. is_free follows (x ∷ xs) z && before z x in
          let none = none_counted test (x ∷ xs) (unnot_true _ (both_true (is_free follows (x ∷ xs) x) _ least).1) in
          let free = ap (λ f. f y) (free_same (x ∷ xs) (y ∷ ys) same) ∙ (both_true (is_free follows (y ∷ ys) y) _ other).0 in
          let counts = same test in
          let here : ◌≡◌ {A = ℕ} (cond (test y) 1 0) 0 = omega arith in
          uncounted (before y x) (sym (ap (λ b. cond {A = ℕ} (b && before y x) 1 0) free) ∙ here)

      same_orders : (xs ys : List X) → AreSame xs ys → HasLeastFirst follows before xs → HasLeastFirst follows before ys → xs ≡ ys
      same_orders [] [] same one other = refl
      same_orders [] (y ∷ ys) same one other = let counts = same (λ _. true) in absurd (omega arith)
      same_orders (x ∷ xs) [] same one other = let counts = same (λ _. true) in absurd (omega arith)
      same_orders (x ∷ xs) (y ∷ ys) same one other =
          let heads = apart x y (not_before y x ys xs (λ test. sym (same test)) other.0 one.0) (not_before x y xs ys same one.0 other.0) in
          let rests : AreSame xs ys = λ test. let counts : count test (x ∷ xs) ≡ count test (y ∷ ys) = same test in let first : ◌≡◌ {A = ℕ} (cond {A = ℕ} (test x) 1 0) (cond {A = ℕ} (test y) 1 0) = ap (λ z. cond {A = ℕ} (test z) 1 0) heads in omega arith in
          λ i. heads i ∷ same_orders xs ys rests one.1 other.1 i

      -- there is one order
      pub one_order : (xs ys zs : List X) → IsOrderOf follows before xs ys → IsOrderOf follows before xs zs → ys ≡ zs
      one_order xs ys zs one other = same_orders ys zs (λ test. sym (count-is test ys) ∙ sym (one.same test) ∙ other.same test ∙ count-is test zs) one.least_first other.least_first
