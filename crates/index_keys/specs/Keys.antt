-- The parts of an index key, which texts are keys, and what is wrong with the others.
-- A text is seen as its bytes, and in a key each byte is one character.
use Rattle.std.specs.Prelude.{ℕ, ◌+◌, ◌-◌, List, ◌++◌, Bool, not, if◌then◌else◌, Option, Some, None, IsTrue, IsFalse, nat_eq, nat_le, length, slice_index, drop, replicate, codes}
use Rattle.std.specs.Char.{is_ascii_alphabetic, is_ascii_alphanumeric, is_ascii_lowercase}
use Rattle.std.specs.List.{list_all, ends_with}
use Rattle.std.specs.Str.{chars, bytes_eq}
use Rattle.index_keys.specs.declared.fault.KeyFault.{KeyFault}
use Rattle.index_keys.specs.declared.fault.KeyFault.TheVariants.{BadHead, ShortInteger, BadDigit, TrailingZero, SmallestInteger}

-- the first byte, and 0 of the empty text
abbrev pub head_of : List ℕ → ℕ
head_of key = slice_index key 0

-- the length of the integer part, head included: 2 under `a` to 27 under `z`, 2 under `Z` to 27
-- under `A`
abbrev pub integer_length : ℕ → ℕ
integer_length head = if is_ascii_lowercase head then head - 97 + 2 else 90 - head + 2

-- what follows the integer part
abbrev pub fraction_of : List ℕ → List ℕ
fraction_of key = drop (integer_length (head_of key)) key

-- the smallest integer part: `A` and 26 `0`
abbrev pub smallest_integer : List ℕ
smallest_integer = codes "A" ++ replicate 26 48

-- the text begins with a letter
abbrev pub has_head : List ℕ → Bool
has_head key = is_ascii_alphabetic (head_of key)

-- the text has as many characters as its integer part needs
abbrev pub has_whole_integer : List ℕ → Bool
has_whole_integer key = nat_le (integer_length (head_of key)) (length (chars key))

-- each character after the head is a digit `0` to `9`, `A` to `Z` or `a` to `z`
abbrev pub has_digits : List ℕ → Bool
has_digits key = list_all is_ascii_alphanumeric (drop 1 key)

-- the fraction ends in `0`
abbrev pub has_trailing_zero : List ℕ → Bool
has_trailing_zero key = ends_with nat_eq (fraction_of key) (codes "0")

-- the text is the smallest integer part alone
abbrev pub is_smallest_integer : List ℕ → Bool
is_smallest_integer key = bytes_eq key smallest_integer

-- the text is a valid key
pub record IsKey (key : List ℕ) : Type 0 where
  pub head : IsTrue (has_head key)
  pub integer : IsTrue (has_whole_integer key)
  pub digits : IsTrue (has_digits key)
  pub fraction : IsFalse (has_trailing_zero key)
  pub above_smallest : IsFalse (is_smallest_integer key)

-- the first thing that is wrong with the text, and nothing where it is a valid key
abbrev pub first_fault : List ℕ → Option KeyFault
first_fault key =
    if not (has_head key) then Some BadHead
    else if not (has_whole_integer key) then Some ShortInteger
    else if not (has_digits key) then Some BadDigit
    else if has_trailing_zero key then Some TrailingZero
    else if is_smallest_integer key then Some SmallestInteger
    else None
