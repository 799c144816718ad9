-- How the words of the command line write numbers.
use Rattle.std.specs.Prelude.{ℕ, nat_le, nat_eq, List, [], ◌∷◌, length, Bool, false, not, ◌&&◌, ◌||◌, if◌then◌else◌, Option, Some, None}
use Rattle.std.specs.List.{list_all}
use Rattle.std.specs.Str.Parse.{digits_value}

-- the character is a decimal digit
abbrev pub is_digit : ℕ → Bool
is_digit c = nat_le 48 c && nat_le c 57

-- decimal digits, without sign; the first is 0 only where it is alone
abbrev pub is_decimal : List ℕ → Bool
is_decimal [] = false
is_decimal (first ∷ rest) = (not (nat_eq first 48) || nat_eq (length rest) 0) && list_all is_digit (first ∷ rest)

-- the number that a word writes, if it is within bounds
abbrev pub number_between : ℕ → ℕ → List ℕ → Option ℕ
number_between least most word =
    let number = digits_value 10 word in
    if is_decimal word && nat_le least number && nat_le number most then Some number else None
