-- The integer parts before and after one.
use Rattle.std.proofs.Common.{◌≡◌, Bool, true, false, ℕ, suc, ◌+◌, ◌-◌, ◌<◌, ◌≤◌, List, [], ◌∷◌, Option, Some, None, if◌then◌else◌, IfSome, inl, inr, All, nat_lt, length, slice_index, replicate, refl, ap, ◌∙◌, arith}
use Rattle.std.proofs.lemmas.Bool.Decides.{nat_tests}
use Rattle.std.proofs.lemmas.List.Elements.{All-cons, All-head, All-tail, All-replicate}
use Rattle.std.proofs.Math.ListN.{length-replicate}
use Rattle.index_keys.specs.Between.{width, filled, smallest, carry_into, carried, is_greatest, is_least, plus_one, minus_one, next_under, last_under, increment, decrement}
use Rattle.index_keys.proofs.OrderLemmas.{Before, Before-zeros}

-- each is the value of a digit
abbrev pub AreDigits : List ℕ → Type 0
AreDigits values = All (λ value. value < 62) values

-- what holds of a list that a test gives or not
if_given : {A : Type 0} (P : A → Type 0) (b : Bool) (x : A) → (b ≡ false → P x) → IfSome (if b then None else Some x) P
if_given P true x holds = tt
if_given P false x holds = holds refl

if_taken : {A : Type 0} (P : A → Type 0) (b : Bool) (x : A) → (b ≡ true → P x) → IfSome (if b then Some x else None) P
if_taken P true x holds = holds refl
if_taken P false x holds = tt

-- what a carry makes of digits: digits, as many, that stand in a relation to them
pub record Makes (R : List ℕ → List ℕ → Type 0) (digits made : List ℕ) : Type 0 where
  pub below : AreDigits made
  pub same_length : length made ≡ length digits
  pub order : R digits made

-- what a step is, so that a carry keeps a relation
record IsStep (is_full : ℕ → Bool) (empty : ℕ) (step : ℕ → ℕ) (R : List ℕ → List ℕ → Type 0) : Type 0 where
  empty_below : empty < 62
  step_below : (d : ℕ) → d < 62 → is_full d ≡ false → step d < 62
  keeps : (d : ℕ) (xs ys : List ℕ) → R xs ys → R (d ∷ xs) (d ∷ ys)
  steps : (d : ℕ) (xs ys : List ℕ) → is_full d ≡ false → R (d ∷ xs) (step d ∷ ys)

carry_into-Makes : (is_full : ℕ → Bool) (empty : ℕ) (step : ℕ → ℕ) (R : List ℕ → List ℕ → Type 0) → IsStep is_full empty step R → (d : ℕ) (ds : List ℕ) (rest : Option (List ℕ)) → d < 62 → IfSome rest (Makes R ds) → IfSome (carry_into is_full empty step d ds rest) (Makes R (d ∷ ds))
carry_into-Makes is_full empty step R is d ds (Some made) low rest = record {
  below = All-cons (λ v. v < 62) d made low rest.below;
  same_length = ap suc rest.same_length;
  order = is.keeps d ds made rest.order;
}
carry_into-Makes is_full empty step R is d ds None low rest =
    if_given (Makes R (d ∷ ds)) (is_full d) (step d ∷ replicate (length ds) empty) (λ (not_full : is_full d ≡ false). record {
      below = All-cons (λ v. v < 62) (step d) (replicate (length ds) empty) (is.step_below d low not_full) (All-replicate (λ v. v < 62) (length ds) empty is.empty_below);
      same_length = ap suc (length-replicate (length ds) empty);
      order = is.steps d ds (replicate (length ds) empty) not_full;
    })

carried-Makes : (is_full : ℕ → Bool) (empty : ℕ) (step : ℕ → ℕ) (R : List ℕ → List ℕ → Type 0) → IsStep is_full empty step R → (ds : List ℕ) → AreDigits ds → IfSome (carried is_full empty step ds) (Makes R ds)
carried-Makes is_full empty step R is [] low = tt
carried-Makes is_full empty step R is (d ∷ ds) low =
    carry_into-Makes is_full empty step R is d ds (carried is_full empty step ds) (All-head (λ v. v < 62) d ds low) (carried-Makes is_full empty step R is ds (All-tail (λ v. v < 62) d ds low))

-- the second list is less at a place that both have
abbrev pub After : List ℕ → List ℕ → Type 0
After xs ys = Before ys xs

plus_one-Makes : (ds : List ℕ) → AreDigits ds → IfSome (plus_one ds) (Makes Before ds)
plus_one-Makes ds low = carried-Makes is_greatest 0 (λ digit. digit + 1) Before (record {
  empty_below = omega arith;
  step_below = λ d below not_full. grind (arith, nat_tests);
  keeps = λ d xs ys order. inr (refl, order);
  steps = λ d xs ys not_full. inl (omega arith);
}) ds low

minus_one-Makes : (ds : List ℕ) → AreDigits ds → IfSome (minus_one ds) (Makes After ds)
minus_one-Makes ds low = carried-Makes is_least 61 (λ digit. digit - 1) After (record {
  empty_below = omega arith;
  step_below = λ d below not_full. grind (arith, nat_tests);
  keeps = λ d xs ys order. inr (refl, order);
  steps = λ d xs ys not_full. inl (let positive : 0 < d = grind (arith, nat_tests) in omega arith);
}) ds low

-- the values of an integer part: a letter's, and as many as the letter needs
pub record IsInteger (integer : List ℕ) : Type 0 where
  pub head : 10 ≤ slice_index integer 0
  pub exact : length integer ≡ width (slice_index integer 0) + 1
  pub digits : AreDigits integer

-- a head with one digit as often as it needs is an integer part
pub filled-IsInteger : (head digit : ℕ) → 10 ≤ head → head < 62 → digit < 62 → IsInteger (filled head digit)
filled-IsInteger head digit high low small = record {
  head = high;
  exact = ap suc (length-replicate (width head) digit) ∙ (let next : suc (width head) ≡ width head + 1 = omega arith in next);
  digits = All-cons (λ v. v < 62) head (replicate (width head) digit) low (All-replicate (λ v. v < 62) (width head) digit small);
}

-- an integer part and the one after it
pub record IsNext (integer next : List ℕ) : Type 0 where
  pub next_is : IsInteger next
  pub order : Before integer next

-- an integer part and the one before it
pub record IsLast (integer last : List ℕ) : Type 0 where
  pub last_is : IsInteger last
  pub order : Before last integer

with_digits : (head : ℕ) (ds es : List ℕ) → IsInteger (head ∷ ds) → AreDigits es → length es ≡ length ds → IsInteger (head ∷ es)
with_digits head ds es is low same = record {
  head = is.head;
  exact = ap suc same ∙ is.exact;
  digits = All-cons (λ v. v < 62) head es (All-head (λ v. v < 62) head ds is.digits) low;
}

next_under-IsNext : (head : ℕ) (ds : List ℕ) (r : Option (List ℕ)) → IsInteger (head ∷ ds) → IfSome r (Makes Before ds) → IfSome (next_under head r) (IsNext (head ∷ ds))
next_under-IsNext head ds (Some es) is makes = record {
  next_is = with_digits head ds es is makes.below makes.same_length;
  order = inr (refl, makes.order);
}
next_under-IsNext head ds None is makes =
    if_taken (IsNext (head ∷ ds)) (nat_lt head 61) (filled (head + 1) 0) (λ (less : nat_lt head 61 ≡ true).
    let low : head < 61 = grind (arith, nat_tests) in
    let high : 10 ≤ head = is.head in
    record {
      next_is = filled-IsInteger (head + 1) 0 (omega arith) (omega arith) (omega arith);
      order = inl (omega arith);
    })

pub increment-IsNext : (integer : List ℕ) → IsInteger integer → IfSome (increment integer) (IsNext integer)
increment-IsNext [] is = absurd (let none_there : 10 ≤ 0 = is.head in omega arith)
increment-IsNext (head ∷ ds) is = next_under-IsNext head ds (plus_one ds) is (plus_one-Makes ds (All-tail (λ v. v < 62) head ds is.digits))

last_under-IsLast : (head : ℕ) (ds : List ℕ) (r : Option (List ℕ)) → IsInteger (head ∷ ds) → IfSome r (Makes After ds) → IfSome (last_under head r) (IsLast (head ∷ ds))
last_under-IsLast head ds (Some es) is makes = record {
  last_is = with_digits head ds es is makes.below makes.same_length;
  order = inr (refl, makes.order);
}
last_under-IsLast head ds None is makes =
    if_taken (IsLast (head ∷ ds)) (nat_lt 10 head) (filled (head - 1) 61) (λ (more : nat_lt 10 head ≡ true).
    let high : 10 < head = grind (arith, nat_tests) in
    let low : head < 62 = All-head (λ v. v < 62) head ds is.digits in
    record {
      last_is = filled-IsInteger (head - 1) 61 (omega arith) (omega arith) (omega arith);
      order = inl (omega arith);
    })

pub decrement-IsLast : (integer : List ℕ) → IsInteger integer → IfSome (decrement integer) (IsLast integer)
decrement-IsLast [] is = absurd (let none_there : 10 ≤ 0 = is.head in omega arith)
decrement-IsLast (head ∷ ds) is = last_under-IsLast head ds (minus_one ds) is (minus_one-Makes ds (All-tail (λ v. v < 62) head ds is.digits))

-- no integer part is before the smallest one
pub Before-smallest : (integer : List ℕ) → IsInteger integer → Before integer smallest → ⊥
Before-smallest [] is before = before
Before-smallest (head ∷ ds) is before =
    let high : 10 ≤ head = is.head in
    elim before [
      | inl first ↦ omega arith
      | inr rest ↦ Before-zeros ds (width 10) rest.1
    ]
