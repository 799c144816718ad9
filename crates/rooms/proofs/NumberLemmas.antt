-- How a word is read as a number.
use Rattle.std.proofs.Common.{◌≡◌, ℕ, ◌<◌, ◌≤◌, ◌^◌, nat_le, true, false, ◌&&◌, cond, List, [], ◌∷◌, length, drop, Some, None, refl, sym, ap, subst, arith}
use Rattle.std.specs.Prelude.{nat_eq, not, ◌||◌}
use Rattle.std.specs.List.{list_all}
use Rattle.std.specs.Str.Parse.{AllDigits, IsNumeral, digits_value, without_leading_plus}
use Rattle.std.proofs.lemmas.Bool.Decides.{nat_tests}
use Rattle.rooms.specs.Numbers.{is_digit, is_decimal, number_between}
use Rattle.rooms_val.proofs.Truths.{and_left, and_right, and_false}

digit_is : (c : ℕ) → is_digit c ≡ true → (48 ≤ c) × (c ≤ 57)
digit_is c is = let low = and_left (nat_le 48 c) (nat_le c 57) is in let high = and_right (nat_le 48 c) (nat_le c 57) is in (grind (arith, nat_tests, low), grind (arith, nat_tests, high))

digits_are : (ds : List ℕ) → list_all is_digit ds ≡ true → AllDigits 10 ds
digits_are [] all = tt
digits_are (c ∷ cs) all =
    let here = digit_is c (and_left (is_digit c) (list_all is_digit cs) all) in
    (grind (arith, nat_tests, here.0, here.1), digits_are cs (and_right (is_digit c) (list_all is_digit cs) all))

-- a decimal word is digits, of which there is one, and begins with no plus
pub numeral : (word : List ℕ) → is_decimal word ≡ true → IsNumeral 10 word
numeral [] is = absurd (cc)
numeral (first ∷ rest) is = (omega arith, digits_are (first ∷ rest) (and_right (not (nat_eq first 48) || nat_eq (length rest) 0) (list_all is_digit (first ∷ rest)) is))

plain : (word : List ℕ) → is_decimal word ≡ true → without_leading_plus word ≡ word
plain [] is = absurd (cc)
plain (first ∷ rest) is =
    let all = and_right (not (nat_eq first 48) || nat_eq (length rest) 0) (list_all is_digit (first ∷ rest)) is in
    let low = (digit_is first (and_left (is_digit first) (list_all is_digit rest) all)).0 in
    let differs : nat_eq first 43 ≡ false = grind (arith, nat_tests, low) in
    ap (λ b. drop (cond b 1 0) (first ∷ rest)) differs

-- a decimal word that doesn't fit 64 bits is beyond each bound of 64 bits
pub too_great : (least most : ℕ) (word : List ℕ) → is_decimal word ≡ true → most < 2 ^ 64
    → (IsNumeral 10 (without_leading_plus word) × (digits_value 10 (without_leading_plus word) < 2 ^ 64) → ⊥) → None ≡ number_between least most word
too_great least most word is small over =
    let n = digits_value 10 word in
    elim (nat_le n most) as (λ b. nat_le n most ≡ b → None ≡ cond (is_decimal word && nat_le least n && b) (Some n) None) [
      | true ↦ λ le.
          let fits : n < 2 ^ 64 = grind (arith, nat_tests, le, small) in
          absurd (over (subst (λ ds. IsNumeral 10 ds × (digits_value 10 ds < 2 ^ 64)) (sym (plain word is)) (numeral word is, fits)))
      | false ↦ λ gt. ap (λ b. cond b (Some n) None) (sym (and_false (is_decimal word && nat_le least n)))
    ] refl
