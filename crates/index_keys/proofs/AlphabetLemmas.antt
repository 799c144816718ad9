-- Digits, their values and their order.
use Rattle.std.proofs.Common.{◌≡◌, true, false, ◌&&◌, nat_eq, ℕ, ◌+◌, ◌<◌, ◌≤◌, arith}
use Rattle.std.proofs.lemmas.Bool.Decides.{nat_tests}
use Rattle.std.specs.Char.{is_ascii_alphabetic, is_ascii_alphanumeric}
use Rattle.std.proofs.Math.Utf8.{scalar}
use Rattle.index_keys.specs.Digits.{value_of, digit_of}
use Rattle.index_keys.specs.Keys.{integer_length}
use Rattle.index_keys.specs.Between.{width}

-- the value of a digit is below 62
pub value_of-below : (c : ℕ) → is_ascii_alphanumeric c ≡ true → value_of c < 62
value_of-below c is = grind (arith, nat_tests)

-- the value of a letter is 10 at least
pub value_of-letter : (c : ℕ) → is_ascii_alphabetic c ≡ true → 10 ≤ value_of c
value_of-letter c is = grind (arith, nat_tests)

-- a letter is a digit
pub letter-digit : (c : ℕ) → is_ascii_alphabetic c ≡ true → is_ascii_alphanumeric c ≡ true
letter-digit c is = grind (arith, nat_tests)

-- a digit is the digit of its value
pub digit_of-value_of : (c : ℕ) → is_ascii_alphanumeric c ≡ true → digit_of (value_of c) ≡ c
digit_of-value_of c is = grind (arith, nat_tests)

-- a value below 62 is that of its digit
pub value_of-digit_of : (v : ℕ) → v < 62 → value_of (digit_of v) ≡ v
value_of-digit_of v low = grind (arith, nat_tests)

-- the digit of a value is a digit
pub digit_of-digit : (v : ℕ) → v < 62 → is_ascii_alphanumeric (digit_of v) ≡ true
digit_of-digit v low = grind (arith, nat_tests)

-- the digit of a value from 10 on is a letter
pub digit_of-letter : (v : ℕ) → 10 ≤ v → v < 62 → is_ascii_alphabetic (digit_of v) ≡ true
digit_of-letter v high low = grind (arith, nat_tests)

-- digits rise as their values do
pub digit_of-rises : (v w : ℕ) → v < w → w < 62 → digit_of v < digit_of w
digit_of-rises v w less low = grind (arith, nat_tests)

-- a digit is one byte
pub digit-ascii : (c : ℕ) → is_ascii_alphanumeric c ≡ true → c < 128
digit-ascii c is = grind (arith, nat_tests)

-- a digit is a character
pub digit-scalar : (c : ℕ) → is_ascii_alphanumeric c ≡ true → scalar c ≡ true
digit-scalar c is = grind (arith, nat_tests)

-- how many digits a letter needs, by its byte and by its value
pub width-value_of : (c : ℕ) → is_ascii_alphabetic c ≡ true → integer_length c ≡ width (value_of c) + 1
width-value_of c is = grind (arith, nat_tests)

-- a last digit that isn't `0` is above 0, by its byte and by its value
pub value_of-positive : (c : ℕ) → is_ascii_alphanumeric c ≡ true → (nat_eq 48 c && true) ≡ false → 0 < value_of c
value_of-positive c is no_zero = grind (arith, nat_tests)

pub digit_of-positive : (v : ℕ) → v < 62 → 0 < v → (nat_eq 48 (digit_of v) && true) ≡ false
digit_of-positive v low positive = grind (arith, nat_tests)

-- values rise as their digits do
pub value_of-rises : (c d : ℕ) → is_ascii_alphanumeric c ≡ true → is_ascii_alphanumeric d ≡ true → c < d → value_of c < value_of d
value_of-rises c d first second less = grind (arith, nat_tests)
