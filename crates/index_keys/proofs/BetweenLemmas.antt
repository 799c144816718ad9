-- The key between two others is a valid key and lies between them: a fact about the definitions.
use Rattle.std.proofs.Common.{◌≡◌, ◌≢◌, Bool, true, false, ℕ, suc, ◌+◌, ◌<◌, ◌≤◌, List, [], ◌∷◌, ◌++◌, Option, Some, None, if◌then◌else◌, IfSome, unwrap_or, inl, inr, nat_lt, length, slice_index, take, drop, refl, ap, sym, ◌∙◌, subst, arith}
use Rattle.std.proofs.lemmas.Bool.Decides.{nat_tests}
use Rattle.std.proofs.lemmas.List.{append-nil, length-append, length-take-le, take-append-drop}
use Rattle.std.proofs.lemmas.List.Elements.{All-append, All-take, All-drop}
use Rattle.std.proofs.Math.Seq.{drop-append_seam}
use Rattle.std.specs.Cmp.Lexicographic.{same_text, other_text}
use Rattle.std.specs.Str.{bytes_eq}
use Rattle.index_keys.specs.Between.{width, integer_part, fraction_part, filled, smallest, increment, decrement, midpoint_open, midpoint_within, above_smallest, before, past_fraction, after, next_within, inside, values_between}
use Rattle.index_keys.specs.Order.{is_less}
use Rattle.index_keys.proofs.FractionLemmas.{EndsAboveZero, midpoint_open-IsPast, midpoint_within-IsMid}
use Rattle.index_keys.proofs.IntegerLemmas.{AreDigits, IsInteger, IsNext, IsLast, increment-IsNext, decrement-IsLast, filled-IsInteger, Before-smallest}
use Rattle.index_keys.proofs.KeyLemmas.{IsKeyOfValues}
use Rattle.index_keys.proofs.OrderLemmas.{Below, Before, Below-nil, Below-from_Before, Below-after_same, Below-rests, Before-fronts, Below-from_test}

-- an integer part and a fraction make a key, but for the smallest integer part alone
joined : (integer fraction : List ℕ) → IsInteger integer → AreDigits fraction → EndsAboveZero fraction → integer ++ fraction ≢ smallest → IsKeyOfValues (integer ++ fraction)
joined [] fraction is lows ends other = absurd (let none_there : 10 ≤ 0 = is.head in omega arith)
joined (head ∷ ds) fraction is lows ends other =
    let exact : length (head ∷ ds) ≡ width head + 1 = is.exact in
    let rest : drop (width head + 1) ((head ∷ ds) ++ fraction) ≡ fraction = subst (λ (n : ℕ). drop n ((head ∷ ds) ++ fraction) ≡ fraction) exact (drop-append_seam (head ∷ ds) fraction) in
    record {
      head = is.head;
      whole = let both : length ((head ∷ ds) ++ fraction) ≡ length (head ∷ ds) + length fraction = length-append (head ∷ ds) fraction in omega arith;
      digits = All-append (λ v. v < 62) (head ∷ ds) fraction is.digits lows;
      ends = subst EndsAboveZero (sym rest) ends;
      not_smallest = other;
    }

-- an integer part alone
alone : (integer : List ℕ) → IsInteger integer → integer ≢ smallest → IsKeyOfValues integer
alone integer is other =
    let same : integer ++ [] ≡ integer = append-nil integer in
    subst IsKeyOfValues same (joined integer [] is (λ k d inside_it. absurd (omega arith)) tt (λ equal. other (sym same ∙ equal)))

-- the parts of a key
integer_part-IsInteger : (key : List ℕ) → IsKeyOfValues key → IsInteger (integer_part key)
integer_part-IsInteger [] is = absurd (let none_there : 10 ≤ 0 = is.head in omega arith)
integer_part-IsInteger (head ∷ ds) is =
    let front : integer_part (head ∷ ds) ≡ head ∷ take (width head) ds = ap (λ (n : ℕ). take n (head ∷ ds)) (let next : width head + 1 ≡ suc (width head) = omega arith in next) in
    let room : width head ≤ length ds = (let whole : width head < length (head ∷ ds) = is.whole in omega arith) in
    subst IsInteger (sym front) (record {
      head = is.head;
      exact = ap suc (length-take-le (width head) ds room) ∙ (let next : suc (width head) ≡ width head + 1 = omega arith in next);
      digits = subst AreDigits front (All-take (λ v. v < 62) (width head + 1) (head ∷ ds) is.digits);
    })

fraction_part-AreDigits : (key : List ℕ) → IsKeyOfValues key → AreDigits (fraction_part key)
fraction_part-AreDigits key is = All-drop (λ v. v < 62) (width (slice_index key 0) + 1) key is.digits

both_parts : (key : List ℕ) → integer_part key ++ fraction_part key ≡ key
both_parts key = take-append-drop (width (slice_index key 0) + 1) key

-- a key with an integer part and a fraction that has digits
joined_longer : (integer fraction : List ℕ) → IsInteger integer → AreDigits fraction → EndsAboveZero fraction → 0 < length fraction → IsKeyOfValues (integer ++ fraction)
joined_longer integer fraction is lows ends some =
    joined integer fraction is lows ends (λ equal. too_long integer fraction is some equal)
  where
    too_long : (integer fraction : List ℕ) → IsInteger integer → 0 < length fraction → integer ++ fraction ≡ smallest → ⊥
    too_long [] fraction is some equal = absurd (let none_there : 10 ≤ 0 = is.head in omega arith)
    too_long (head ∷ ds) fraction is some equal =
        let first : head ≡ 10 = cc in
        let exact : length (head ∷ ds) ≡ width head + 1 = is.exact in
        let exact_10 : length (head ∷ ds) ≡ width 10 + 1 = subst (λ (h : ℕ). length (head ∷ ds) ≡ width h + 1) first exact in
        let same : length ((head ∷ ds) ++ fraction) ≡ length smallest = ap length equal in
        let both : length ((head ∷ ds) ++ fraction) ≡ length (head ∷ ds) + length fraction = length-append (head ∷ ds) fraction in
        omega arith

-- what a test of two lists tells
pub same_lists : (xs ys : List ℕ) → bytes_eq xs ys ≡ true → xs ≡ ys
same_lists xs ys equal = same_text xs ys (sym equal)

other_lists : (xs ys : List ℕ) → bytes_eq xs ys ≡ false → xs ≢ ys
other_lists xs ys differ equal = other_text xs ys (sym differ) equal

chosen : {A : Type 0} (P : A → Type 0) (b : Bool) (x y : A) → (b ≡ true → P x) → (b ≡ false → P y) → P (if b then x else y)
chosen P true x y first second = first refl
chosen P false x y first second = second refl

-- a key below another
record IsUnder (above made : List ℕ) : Type 0 where
  key : IsKeyOfValues made
  order : Below made above

above_smallest-IsUnder : (above : List ℕ) → IsKeyOfValues above → (last : Option (List ℕ)) → IfSome last (IsLast (integer_part above)) → IfSome (above_smallest last) (IsUnder above)
above_smallest-IsUnder above is None found = tt
above_smallest-IsUnder above is (Some last) found =
    chosen (λ r. IfSome r (IsUnder above)) (bytes_eq last smallest) None (Some last)
    (λ (same : bytes_eq last smallest ≡ true). tt)
    (λ (differ : bytes_eq last smallest ≡ false). record {
      key = alone last found.last_is (other_lists last smallest differ);
      order = subst (λ (a : List ℕ). Below last a) (both_parts above) (subst (λ (l : List ℕ). Below l (integer_part above ++ fraction_part above)) (append-nil last) (Below-from_Before last (integer_part above) [] (fraction_part above) found.order));
    })

before-IsUnder : (above : List ℕ) → IsKeyOfValues above → IfSome (before above) (IsUnder above)
before-IsUnder above is =
    let integer = integer_part-IsInteger above is in
    chosen (λ r. IfSome r (IsUnder above)) (bytes_eq (integer_part above) smallest) _ _
    (λ (same : bytes_eq (integer_part above) smallest ≡ true).
    let equal : integer_part above ≡ smallest = same_lists (integer_part above) smallest same in
    let whole : smallest ++ fraction_part above ≡ above = subst (λ (i : List ℕ). i ++ fraction_part above ≡ above) equal (both_parts above) in
    let mid = midpoint_within-IsMid [] (fraction_part above) (λ k d inside_it. absurd (omega arith)) (fraction_part-AreDigits above is) is.ends (Below-nil (fraction_part above) (has_more above is whole)) in
    record {
      key = joined_longer smallest (midpoint_within [] (fraction_part above)) (filled-IsInteger 10 0 (omega arith) (omega arith) (omega arith)) mid.digits mid.ends mid.some;
      order = subst (λ (a : List ℕ). Below (smallest ++ midpoint_within [] (fraction_part above)) a) whole (Below-after_same smallest (midpoint_within [] (fraction_part above)) (fraction_part above) mid.to_above);
    })
    (λ (differ : bytes_eq (integer_part above) smallest ≡ false).
    let other : integer_part above ≢ smallest = other_lists (integer_part above) smallest differ in
    chosen (λ r. IfSome r (IsUnder above)) (nat_lt 0 (length (fraction_part above))) _ _
    (λ (more : nat_lt 0 (length (fraction_part above)) ≡ true).
    let some : 0 < length (fraction_part above) = grind (arith, nat_tests) in
    record {
      key = alone (integer_part above) integer other;
      order = subst (λ (a : List ℕ). Below (integer_part above) a) (both_parts above) (subst (λ (i : List ℕ). Below i (integer_part above ++ fraction_part above)) (append-nil (integer_part above)) (Below-after_same (integer_part above) [] (fraction_part above) (Below-nil (fraction_part above) some)));
    })
    (λ (no_more : nat_lt 0 (length (fraction_part above)) ≡ false).
    above_smallest-IsUnder above is (decrement (integer_part above)) (decrement-IsLast (integer_part above) integer)))
  where
    by_length : (above : List ℕ) → IsKeyOfValues above → (fraction : List ℕ) → smallest ++ fraction ≡ above → 0 < length fraction
    by_length above is [] whole = absurd (is.not_smallest (sym whole ∙ append-nil smallest))
    by_length above is (d ∷ ds) whole = omega arith

    has_more : (above : List ℕ) → IsKeyOfValues above → smallest ++ fraction_part above ≡ above → 0 < length (fraction_part above)
    has_more above is whole = by_length above is (fraction_part above) whole

-- a key above another
record IsOver (below made : List ℕ) : Type 0 where
  key : IsKeyOfValues made
  order : Below below made

past_fraction-IsOver : (below : List ℕ) → IsKeyOfValues below → IsOver below (past_fraction below)
past_fraction-IsOver below is =
    let past = midpoint_open-IsPast (fraction_part below) (fraction_part-AreDigits below is) in
    record {
      key = joined_longer (integer_part below) (midpoint_open (fraction_part below)) (integer_part-IsInteger below is) past.digits past.ends past.some;
      order = subst (λ (b : List ℕ). Below b (past_fraction below)) (both_parts below) (Below-after_same (integer_part below) (fraction_part below) (midpoint_open (fraction_part below)) past.order);
    }

-- the next integer part is a key above
next-IsOver : (below next : List ℕ) → IsKeyOfValues below → IsNext (integer_part below) next → IsOver below next
next-IsOver below next is found = record {
  key = alone next found.next_is (λ equal. Before-smallest (integer_part below) (integer_part-IsInteger below is) (subst (λ (n : List ℕ). Before (integer_part below) n) equal found.order));
  order = subst (λ (b : List ℕ). Below b next) (both_parts below) (subst (λ (n : List ℕ). Below (integer_part below ++ fraction_part below) n) (append-nil next) (Below-from_Before (integer_part below) next (fraction_part below) [] found.order));
}

after-IsOver : (below : List ℕ) → IsKeyOfValues below → IsOver below (after below)
after-IsOver below is = by_next (increment (integer_part below)) (increment-IsNext (integer_part below) (integer_part-IsInteger below is))
  where
    by_next : (next : Option (List ℕ)) → IfSome next (IsNext (integer_part below)) → IsOver below (unwrap_or next (past_fraction below))
    by_next (Some next) found = next-IsOver below next is found
    by_next None found = past_fraction-IsOver below is

-- a key between two
pub record IsWithin (below above made : List ℕ) : Type 0 where
  pub key : IsKeyOfValues made
  pub from_below : Below below made
  pub to_above : Below made above

-- of integer parts that differ, that of the less key is less at a place that both have
Before-integers : (ib ia fb fa : List ℕ) → IsInteger ib → IsInteger ia → ib ≢ ia → Below (ib ++ fb) (ia ++ fa) → Before ib ia
Before-integers [] ia fb fa below above differ order = absurd (let none_there : 10 ≤ 0 = below.head in omega arith)
Before-integers (h ∷ ds) [] fb fa below above differ order = absurd (let none_there : 10 ≤ 0 = above.head in omega arith)
Before-integers (h ∷ ds) (k ∷ es) fb fa below above differ order =
    elim order [
      | inl first ↦ inl first
      | inr rest ↦
          (let here : h ≡ k = rest.0 in
          let first_length : length (h ∷ ds) ≡ width h + 1 = below.exact in
          let second_length : length (k ∷ es) ≡ width k + 1 = above.exact in
          let same_width : width h ≡ width k = ap width here in
          inr (here, Before-fronts ds es fb fa (omega arith) (λ same. differ cc) rest.1))
    ]

past_fraction-IsWithin : (below above : List ℕ) → IsKeyOfValues below → Before (integer_part below) (integer_part above) → IsWithin below above (past_fraction below)
past_fraction-IsWithin below above is order =
    let past = past_fraction-IsOver below is in
    record {
      key = past.key;
      from_below = past.order;
      to_above = subst (λ (a : List ℕ). Below (past_fraction below) a) (both_parts above) (Below-from_Before (integer_part below) (integer_part above) (midpoint_open (fraction_part below)) (fraction_part above) order);
    }

next_within-IsWithin : (below above : List ℕ) → IsKeyOfValues below → Before (integer_part below) (integer_part above) → (next : Option (List ℕ)) → IfSome next (IsNext (integer_part below)) → IsWithin below above (next_within below above next)
next_within-IsWithin below above is order None found = past_fraction-IsWithin below above is order
next_within-IsWithin below above is order (Some next) found =
    chosen (IsWithin below above) (is_less next above) next (past_fraction below)
    (λ (less : is_less next above ≡ true).
    let over = next-IsOver below next is found in
    record { key = over.key; from_below = over.order; to_above = Below-from_test next above less })
    (λ (not_less : is_less next above ≡ false). past_fraction-IsWithin below above is order)

inside-IsWithin : (below above : List ℕ) → IsKeyOfValues below → IsKeyOfValues above → Below below above → IsWithin below above (inside below above)
inside-IsWithin below above is_below is_above order =
    let by_parts : Below (integer_part below ++ fraction_part below) (integer_part above ++ fraction_part above) = subst (λ (b : List ℕ). Below b (integer_part above ++ fraction_part above)) (sym (both_parts below)) (subst (λ (a : List ℕ). Below below a) (sym (both_parts above)) order) in
    let integer = integer_part-IsInteger below is_below in
    chosen (IsWithin below above) (bytes_eq (integer_part below) (integer_part above)) _ _
    (λ (same : bytes_eq (integer_part below) (integer_part above) ≡ true).
    let equal : integer_part below ≡ integer_part above = same_lists (integer_part below) (integer_part above) same in
    let whole_above : integer_part below ++ fraction_part above ≡ above = subst (λ (i : List ℕ). i ++ fraction_part above ≡ above) (sym equal) (both_parts above) in
    let rests : Below (fraction_part below) (fraction_part above) = Below-rests (integer_part below) (fraction_part below) (fraction_part above) (subst (λ (i : List ℕ). Below (integer_part below ++ fraction_part below) (i ++ fraction_part above)) (sym equal) by_parts) in
    let mid = midpoint_within-IsMid (fraction_part below) (fraction_part above) (fraction_part-AreDigits below is_below) (fraction_part-AreDigits above is_above) is_above.ends rests in
    let made : List ℕ = midpoint_within (fraction_part below) (fraction_part above) in
    record {
      key = joined_longer (integer_part below) made integer mid.digits mid.ends mid.some;
      from_below = subst (λ (b : List ℕ). Below b (integer_part below ++ made)) (both_parts below) (Below-after_same (integer_part below) (fraction_part below) made mid.from_below);
      to_above = subst (λ (a : List ℕ). Below (integer_part below ++ made) a) whole_above (Below-after_same (integer_part below) made (fraction_part above) mid.to_above);
    })
    (λ (differ : bytes_eq (integer_part below) (integer_part above) ≡ false).
    next_within-IsWithin below above is_below
    (Before-integers (integer_part below) (integer_part above) (fraction_part below) (fraction_part above) integer (integer_part-IsInteger above is_above) (other_lists (integer_part below) (integer_part above) differ) by_parts)
    (increment (integer_part below)) (increment-IsNext (integer_part below) integer))

-- a key between two ends, each given or not
pub record IsBetweenValues (below above : Option (List ℕ)) (made : List ℕ) : Type 0 where
  pub key : IsKeyOfValues made
  pub from_below : IfSome below (λ end. Below end made)
  pub to_above : IfSome above (λ end. Below made end)

-- the ends are in order, where both are given
abbrev pub AreInOrder : Option (List ℕ) → Option (List ℕ) → Type 0
AreInOrder (Some below) (Some above) = Below below above
AreInOrder (Some below) None = Unit {0}
AreInOrder None above = Unit {0}

pub values_between-IsBetween : (below above : Option (List ℕ)) → IfSome below IsKeyOfValues → IfSome above IsKeyOfValues → AreInOrder below above → IfSome (values_between below above) (IsBetweenValues below above)
values_between-IsBetween None None below_is above_is order = record {
  key = alone (filled 36 0) (filled-IsInteger 36 0 (omega arith) (omega arith) (omega arith)) (λ equal. cc);
  from_below = tt;
  to_above = tt;
}
values_between-IsBetween None (Some above) below_is above_is order =
    under above (before above) (before-IsUnder above above_is)
  where
    under : (above : List ℕ) (made : Option (List ℕ)) → IfSome made (IsUnder above) → IfSome made (IsBetweenValues None (Some above))
    under above None found = tt
    under above (Some made) found = record { key = found.key; from_below = tt; to_above = found.order }
values_between-IsBetween (Some below) None below_is above_is order =
    let over = after-IsOver below below_is in
    record { key = over.key; from_below = over.order; to_above = tt }
values_between-IsBetween (Some below) (Some above) below_is above_is order =
    let within = inside-IsWithin below above below_is above_is order in
    record { key = within.key; from_below = within.from_below; to_above = within.to_above }
