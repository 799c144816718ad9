-- One step of the loops that carry: what the definition makes of the digits from a place on.
use Rattle.std.proofs.Common.{◌≡◌, Bool, true, false, ℕ, suc, zero, ◌+◌, ◌-◌, ◌<◌, ◌≤◌, List, [], ◌∷◌, Some, None, get_or, length, take, drop, replicate, refl, ap, sym, ◌∙◌, subst, arith}
use Rattle.std.proofs.lemmas.List.{drop_more, drop-set, take-set, take-take, get_or-take}
use Rattle.std.proofs.Math.ListN.{set, length-set}
use Rattle.std.proofs.Math.Seq.{drop-length}
use Rattle.index_keys.specs.Between.{carried}

-- a full digit before digits that the carry leaves is left by it too
carried-full_cons : (is_full : ℕ → Bool) (empty : ℕ) (step : ℕ → ℕ) (d : ℕ) (ds : List ℕ) → is_full d ≡ true → carried is_full empty step ds ≡ None → carried is_full empty step (d ∷ ds) ≡ None
carried-full_cons is_full empty step d ds full left = rw (left, full) refl

-- the same of the digits from a place on
carried-full : (is_full : ℕ → Bool) (empty : ℕ) (step : ℕ → ℕ) (digits : List ℕ) (i j : ℕ) → i ≡ j + 1 → j < length digits → is_full (get_or digits j 0) ≡ true → carried is_full empty step (drop i digits) ≡ None → carried is_full empty step (drop j digits) ≡ None
carried-full is_full empty step digits i j e in_range full left =
    let past : carried is_full empty step (drop (j + 1) digits) ≡ None = subst (λ (k : ℕ). carried is_full empty step (drop k digits) ≡ None) e left in
    rw (drop_more digits j 0 in_range) (carried-full_cons is_full empty step (get_or digits j 0) (drop (j + 1) digits) full past)

-- the last digit that isn't full takes the step, and those after it are empty
carried-steps_at : (is_full : ℕ → Bool) (empty : ℕ) (step : ℕ → ℕ) (digits now : List ℕ) (j : ℕ) → j < length digits → length now ≡ length digits → is_full (get_or digits j 0) ≡ false → carried is_full empty step (drop (suc j) digits) ≡ None → take (suc j) now ≡ take (suc j) digits → drop (suc j) now ≡ replicate (length digits - suc j) empty → carried is_full empty step digits ≡ Some (set now j (step (get_or now j 0)))
carried-steps_at is_full empty step [] now j in_range same_length not_full left kept passed = absurd (omega arith)
carried-steps_at is_full empty step (d ∷ ds) [] j in_range same_length not_full left kept passed = absurd (omega arith)
carried-steps_at is_full empty step (d ∷ ds) (e ∷ es) zero in_range same_length not_full left kept passed =
    let same : e ≡ d = cc in
    let length_is : length (d ∷ ds) - suc zero ≡ length ds = omega arith in
    let rest : es ≡ replicate (length ds) empty = passed ∙ ap (λ (n : ℕ). replicate n empty) length_is in
    rw (left, not_full) cc
carried-steps_at is_full empty step (d ∷ ds) (e ∷ es) (suc j) in_range same_length not_full left kept passed =
    let same : e ≡ d = cc in
    let kept_rest : take (suc j) es ≡ take (suc j) ds = cc in
    let length_is : length (d ∷ ds) - suc (suc j) ≡ length ds - suc j = omega arith in
    let passed_rest : drop (suc j) es ≡ replicate (length ds - suc j) empty = passed ∙ ap (λ (n : ℕ). replicate n empty) length_is in
    let below : carried is_full empty step ds ≡ Some (set es j (step (get_or es j 0))) = carried-steps_at is_full empty step ds es j (omega arith) (omega arith) not_full left kept_rest passed_rest in
    rw below cc

-- where a carry stands that has come down to a place: the digits before it are as they were, those from it on are
-- empty and were full
pub record IsCarrying (is_full : ℕ → Bool) (empty : ℕ) (step : ℕ → ℕ) (digits now : List ℕ) (i : ℕ) : Type 0 where
  pub same_length : length now ≡ length digits
  pub within : i ≤ length digits
  pub kept : take i now ≡ take i digits
  pub emptied : drop i now ≡ replicate (length digits - i) empty
  pub left : carried is_full empty step (drop i digits) ≡ None

-- it begins past the last digit
pub carrying-begins : (is_full : ℕ → Bool) (empty : ℕ) (step : ℕ → ℕ) (digits : List ℕ) → IsCarrying is_full empty step digits digits (length digits)
carrying-begins is_full empty step digits =
    let none_left : drop (length digits) digits ≡ [] = drop-length digits in
    record {
      same_length = refl;
      within = omega arith;
      kept = refl;
      emptied = none_left ∙ ap (λ (n : ℕ). replicate n empty) (sym (let zero_is : length digits - length digits ≡ 0 = omega arith in zero_is));
      left = rw none_left refl;
    }

-- the digit in front is as it was
same_digit : (digits now : List ℕ) (i j : ℕ) → i ≡ j + 1 → take i now ≡ take i digits → get_or now j 0 ≡ get_or digits j 0
same_digit digits now i j e kept =
    let first : get_or (take i now) j 0 ≡ get_or now j 0 = get_or-take i now j 0 (omega arith) in
    let second : get_or (take i digits) j 0 ≡ get_or digits j 0 = get_or-take i digits j 0 (omega arith) in
    sym first ∙ (ap (λ (xs : List ℕ). get_or xs j 0) kept ∙ second)

-- the digits in front of that are as they were
kept_in_front : (digits now : List ℕ) (i j : ℕ) → i ≡ j + 1 → take i now ≡ take i digits → take j now ≡ take j digits
kept_in_front digits now i j e kept =
    let first : take j (take i now) ≡ take j now = take-take j i now (omega arith) in
    let second : take j (take i digits) ≡ take j digits = take-take j i digits (omega arith) in
    sym first ∙ (ap (λ (xs : List ℕ). take j xs) kept ∙ second)

-- it goes on past a full digit, which becomes empty
pub carrying-goes_on : (is_full : ℕ → Bool) (empty : ℕ) (step : ℕ → ℕ) (digits now : List ℕ) (i j : ℕ) → i ≡ j + 1 → IsCarrying is_full empty step digits now i → is_full (get_or now j 0) ≡ true → IsCarrying is_full empty step digits (set now j empty) j
carrying-goes_on is_full empty step digits now i j e at full =
    let in_range : j < length now = omega arith in
    let count : length digits - j ≡ suc (length digits - i) = omega arith in
    let rest : drop (j + 1) now ≡ replicate (length digits - i) empty = subst (λ (k : ℕ). drop k now ≡ replicate (length digits - i) empty) e at.emptied in
    record {
      same_length = length-set now j empty ∙ at.same_length;
      within = omega arith;
      kept = take-set now j empty ∙ kept_in_front digits now i j e at.kept;
      emptied = drop-set now j empty in_range ∙ (ap (λ (xs : List ℕ). empty ∷ xs) rest ∙ sym (ap (λ (n : ℕ). replicate n empty) count));
      left = carried-full is_full empty step digits i j e (omega arith) (ap is_full (sym (same_digit digits now i j e at.kept)) ∙ full) at.left;
    }

-- it ends at a digit that isn't full, which takes the step
pub carrying-ends : (is_full : ℕ → Bool) (empty : ℕ) (step : ℕ → ℕ) (digits now : List ℕ) (i j : ℕ) → i ≡ j + 1 → IsCarrying is_full empty step digits now i → is_full (get_or now j 0) ≡ false → carried is_full empty step digits ≡ Some (set now j (step (get_or now j 0)))
carrying-ends is_full empty step digits now i j e at not_full =
    let here : i ≡ suc j = omega arith in
    let left : carried is_full empty step (drop (suc j) digits) ≡ None = subst (λ (k : ℕ). carried is_full empty step (drop k digits) ≡ None) here at.left in
    let kept : take (suc j) now ≡ take (suc j) digits = subst (λ (k : ℕ). take k now ≡ take k digits) here at.kept in
    let emptied : drop (suc j) now ≡ replicate (length digits - suc j) empty = subst (λ (k : ℕ). drop k now ≡ replicate (length digits - k) empty) here at.emptied in
    let not_full_before : is_full (get_or digits j 0) ≡ false = ap is_full (sym (same_digit digits now i j e at.kept)) ∙ not_full in
    carried-steps_at is_full empty step digits now j (omega arith) at.same_length not_full_before left kept emptied
