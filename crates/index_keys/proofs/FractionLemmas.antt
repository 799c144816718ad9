-- The midpoints of fractions.
use Rattle.std.proofs.Common.{◌≡◌, Bool, true, false, ℕ, ◌+◌, ◌-◌, ◌<◌, ◌≤◌, List, [], ◌∷◌, if◌then◌else◌, inl, inr, nat_eq, nat_lt, length, refl, subst, arith}
use Rattle.std.proofs.lemmas.Bool.Decides.{nat_tests}
use Rattle.std.proofs.lemmas.List.Elements.{All-nil, All-cons, All-head, All-tail}
use Rattle.index_keys.specs.Between.{half_way, midpoint_open, midpoint_within}
use Rattle.index_keys.proofs.IntegerLemmas.{AreDigits}
use Rattle.index_keys.proofs.OrderLemmas.{Below, Below-nil}

-- the last digit, if there is one, isn't 0: each digit is above 0 or has another after it
abbrev pub EndsAboveZero : List ℕ → Type 0
EndsAboveZero [] = Unit {0}
EndsAboveZero (d ∷ ds) = (0 < d + length ds) × EndsAboveZero ds

-- what is chosen by a test
chosen : (P : List ℕ → Type 0) (b : Bool) (xs ys : List ℕ) → (b ≡ true → P xs) → (b ≡ false → P ys) → P (if b then xs else ys)
chosen P true xs ys first second = first refl
chosen P false xs ys first second = second refl

-- the digit half way lies between
pub half_way-between : (low high : ℕ) → low + 1 < high → (low < half_way low high) × (half_way low high < high)
half_way-between low high apart = (omega arith, omega arith)

-- a fraction of one digit above 0
one_digit : (d : ℕ) → 0 < d → EndsAboveZero (d ∷ [])
one_digit d positive = (omega arith, tt)

one_below : (d : ℕ) → d < 62 → AreDigits (d ∷ [])
one_below d low = All-cons (λ v. v < 62) d [] low (All-nil (λ (v : ℕ). v < 62))

-- a fraction that is greater
pub record IsPast (below made : List ℕ) : Type 0 where
  pub digits : AreDigits made
  pub ends : EndsAboveZero made
  pub some : 0 < length made
  pub order : Below below made

pub midpoint_open-IsPast : (below : List ℕ) → AreDigits below → IsPast below (midpoint_open below)
midpoint_open-IsPast [] low = record { digits = one_below 31 (omega arith); ends = one_digit 31 (omega arith); some = omega arith; order = tt }
midpoint_open-IsPast (d ∷ ds) low =
    chosen (IsPast (d ∷ ds)) (nat_lt 1 (62 - d)) (half_way d 62 ∷ []) (d ∷ midpoint_open ds)
    (λ (apart : nat_lt 1 (62 - d) ≡ true).
    let room : d + 1 < 62 = grind (arith, nat_tests) in
    let mid = half_way-between d 62 room in
    record { digits = one_below (half_way d 62) mid.1; ends = one_digit (half_way d 62) (omega arith); some = omega arith; order = inl mid.0 })
    (λ (close : nat_lt 1 (62 - d) ≡ false).
    let rest = midpoint_open-IsPast ds (All-tail (λ v. v < 62) d ds low) in
    record {
      digits = All-cons (λ v. v < 62) d (midpoint_open ds) (All-head (λ v. v < 62) d ds low) rest.digits;
      ends = (let some : 0 < length (midpoint_open ds) = rest.some in omega arith, rest.ends);
      some = omega arith;
      order = inr (refl, rest.order);
    })

-- a fraction with a relation to the one below and less than the one above
pub record IsMid (FromBelow : List ℕ → Type 0) (above made : List ℕ) : Type 0 where
  pub digits : AreDigits made
  pub ends : EndsAboveZero made
  pub some : 0 < length made
  pub from_below : FromBelow made
  pub to_above : Below made above

-- what makes a fraction greater than one of a first digit and a rest
record IsOver (d : ℕ) (ds : List ℕ) (FromBelow : List ℕ → Type 0) : Type 0 where
  first : (x : ℕ) (xs : List ℕ) → d < x → FromBelow (x ∷ xs)
  rest : (xs : List ℕ) → Below ds xs → FromBelow (d ∷ xs)

-- one step of the midpoint, from the first digits and the midpoint of the rests
step-IsMid : (d : ℕ) (ds : List ℕ) (FromBelow : List ℕ → Type 0) → IsOver d ds FromBelow → d < 62 → AreDigits ds → (high : ℕ) (above : List ℕ) → AreDigits (high ∷ above) → ((d ≡ high) → IsMid (Below ds) above (midpoint_within ds above)) → d ≤ high → IsMid FromBelow (high ∷ above) (if nat_eq d high then high ∷ midpoint_within ds above else if nat_lt 1 (high - d) then half_way d high ∷ [] else if nat_lt 0 (length above) then high ∷ [] else d ∷ midpoint_open ds)
step-IsMid d ds FromBelow over low lows high above highs shared in_order =
    let high_low : high < 62 = All-head (λ v. v < 62) high above highs in
    chosen (IsMid FromBelow (high ∷ above)) (nat_eq d high) _ _
    (λ (same : nat_eq d high ≡ true).
    let equal : d ≡ high = grind (arith, nat_tests) in
    let rest = shared equal in
    record {
      digits = All-cons (λ v. v < 62) high (midpoint_within ds above) high_low rest.digits;
      ends = (let some : 0 < length (midpoint_within ds above) = rest.some in omega arith, rest.ends);
      some = omega arith;
      from_below = subst (λ (x : ℕ). FromBelow (x ∷ midpoint_within ds above)) equal (over.rest (midpoint_within ds above) rest.from_below);
      to_above = inr (refl, rest.to_above);
    })
    (λ (other : nat_eq d high ≡ false).
    let less : d < high = grind (arith, nat_tests) in
    chosen (IsMid FromBelow (high ∷ above)) (nat_lt 1 (high - d)) _ _
    (λ (apart : nat_lt 1 (high - d) ≡ true).
    let room : d + 1 < high = grind (arith, nat_tests) in
    let mid = half_way-between d high room in
    record {
      digits = one_below (half_way d high) (let under : half_way d high < high = mid.1 in omega arith);
      ends = one_digit (half_way d high) (omega arith);
      some = omega arith;
      from_below = over.first (half_way d high) [] mid.0;
      to_above = inl mid.1;
    })
    (λ (close : nat_lt 1 (high - d) ≡ false).
    chosen (IsMid FromBelow (high ∷ above)) (nat_lt 0 (length above)) _ _
    (λ (more : nat_lt 0 (length above) ≡ true). record {
      digits = one_below high high_low;
      ends = one_digit high (omega arith);
      some = omega arith;
      from_below = over.first high [] less;
      to_above = inr (refl, Below-nil above (grind (arith, nat_tests)));
    })
    (λ (no_more : nat_lt 0 (length above) ≡ false).
    let rest = midpoint_open-IsPast ds lows in
    record {
      digits = All-cons (λ v. v < 62) d (midpoint_open ds) low rest.digits;
      ends = (let some : 0 < length (midpoint_open ds) = rest.some in omega arith, rest.ends);
      some = omega arith;
      from_below = over.rest (midpoint_open ds) rest.order;
      to_above = inl less;
    })))

-- the midpoint of two fractions lies between them
pub midpoint_within-IsMid : (below above : List ℕ) → AreDigits below → AreDigits above → EndsAboveZero above → Below below above → IsMid (Below below) above (midpoint_within below above)
midpoint_within-IsMid [] [] lows highs ends order = absurd order
midpoint_within-IsMid (d ∷ ds) [] lows highs ends order = absurd order
midpoint_within-IsMid [] (high ∷ above) lows highs ends order =
    step-IsMid 0 [] (Below []) (record { first = λ x xs less. tt; rest = λ xs less. tt }) (omega arith) lows high above highs
    (λ (same : 0 ≡ high).
    let some : 0 < length above = omega arith in
    midpoint_within-IsMid [] above lows (All-tail (λ v. v < 62) high above highs) ends.1 (Below-nil above some))
    (omega arith)
midpoint_within-IsMid (d ∷ ds) (high ∷ above) lows highs ends order =
    step-IsMid d ds (Below (d ∷ ds)) (record { first = λ x xs less. inl less; rest = λ xs less. inr (refl, less) }) (All-head (λ v. v < 62) d ds lows) (All-tail (λ v. v < 62) d ds lows) high above highs
    (λ (same : d ≡ high).
    midpoint_within-IsMid ds above (All-tail (λ v. v < 62) d ds lows) (All-tail (λ v. v < 62) high above highs) ends.1 (rest_order d high ds above same order))
    (at_most d high ds above order)
  where
    rest_order : (x y : ℕ) (xs ys : List ℕ) → x ≡ y → Below (x ∷ xs) (y ∷ ys) → Below xs ys
    rest_order x y xs ys same below = elim below [ inl first ↦ absurd (omega arith) | inr rest ↦ rest.1 ]

    at_most : (x y : ℕ) (xs ys : List ℕ) → Below (x ∷ xs) (y ∷ ys) → x ≤ y
    at_most x y xs ys below = elim below [ inl first ↦ omega arith | inr rest ↦ (let same : x ≡ y = rest.0 in omega arith) ]
