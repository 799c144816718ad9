-- The digits of a key as their values, in the order of their bytes: `0` is 0, `A` is 10, `a` is 36,
-- `z` is 61.
use Rattle.std.specs.Prelude.{ℕ, ◌+◌, ◌-◌, List, map, if◌then◌else◌, nat_le, nat_lt}

-- the value of a digit
abbrev pub value_of : ℕ → ℕ
value_of digit =
    if nat_le 97 digit then digit - 61
    else if nat_le 65 digit then digit - 55
    else digit - 48

-- the digit of a value below 62
abbrev pub digit_of : ℕ → ℕ
digit_of value =
    if nat_lt value 10 then value + 48
    else if nat_lt value 36 then value + 55
    else value + 61

-- the values of a text's digits
abbrev pub values_of : List ℕ → List ℕ
values_of text = map value_of text

-- the text whose digits have these values
abbrev pub text_of : List ℕ → List ℕ
text_of values = map digit_of values
