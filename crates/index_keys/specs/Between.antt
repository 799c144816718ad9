-- The key between two others, by the values of their digits.
use Rattle.std.specs.Prelude.{ℕ, ◌+◌, ◌-◌, ◌/◌, List, [], ◌∷◌, ◌++◌, Bool, true, not, ◌&&◌, if◌then◌else◌, Option, Some, None, Result, Ok, Err, is_none, nat_eq, nat_le, nat_lt, length, slice_index, take, drop, replicate, unwrap_or}
use Rattle.std.specs.Option.{option_map}
use Rattle.std.specs.Str.{bytes_eq}
use Rattle.index_keys.specs.Digits.{values_of, text_of}
use Rattle.index_keys.specs.Keys.{first_fault}
use Rattle.index_keys.specs.Order.{is_less}
use Rattle.index_keys.specs.declared.fault.BetweenFault.{BetweenFault}
use Rattle.index_keys.specs.declared.fault.BetweenFault.TheVariants.{NotKey, NotLess, NoRoom, KeyTooLong}

-- how many digits follow a head: 1 after `a` (36) to 26 after `z` (61), 1 after `Z` (35) to 26
-- after `A` (10)
abbrev pub width : ℕ → ℕ
width head = if nat_le 36 head then head - 35 else 36 - head

-- the head and the digits that it needs
abbrev pub integer_part : List ℕ → List ℕ
integer_part key = take (width (slice_index key 0) + 1) key

-- what follows the integer part
abbrev pub fraction_part : List ℕ → List ℕ
fraction_part key = drop (width (slice_index key 0) + 1) key

-- a head and the one digit, as often as the head needs
abbrev pub filled : ℕ → ℕ → List ℕ
filled head digit = head ∷ replicate (width head) digit

-- the smallest integer part: `A` and 26 `0`
abbrev pub smallest : List ℕ
smallest = filled 10 0

-- a digit before others, by what a step makes of these: the digit steps where the carry leaves them
abbrev pub carry_into : (ℕ → Bool) → ℕ → (ℕ → ℕ) → ℕ → List ℕ
    → Option (List ℕ) → Option (List ℕ)
carry_into is_full empty step digit digits (Some stepped) = Some (digit ∷ stepped)
carry_into is_full empty step digit digits None =
    if is_full digit then None else Some (step digit ∷ replicate (length digits) empty)

-- the last digit takes a step; a full one becomes empty and carries; none where the carry leaves
-- the digits
abbrev pub carried : (ℕ → Bool) → ℕ → (ℕ → ℕ) → List ℕ → Option (List ℕ)
carried is_full empty step [] = None
carried is_full empty step (digit ∷ digits) =
    carry_into is_full empty step digit digits (carried is_full empty step digits)

-- the digit `z`, past which there is none
abbrev pub is_greatest : ℕ → Bool
is_greatest digit = nat_le 61 digit

-- the digit `0`, below which there is none
abbrev pub is_least : ℕ → Bool
is_least digit = nat_le digit 0

-- one is added to the last digit, and a digit past `z` becomes `0` and carries
abbrev pub plus_one : List ℕ → Option (List ℕ)
plus_one digits = carried is_greatest 0 (λ digit. digit + 1) digits

-- one is taken from the last digit, and a digit below `0` becomes `z` and borrows
abbrev pub minus_one : List ℕ → Option (List ℕ)
minus_one digits = carried is_least 61 (λ digit. digit - 1) digits

-- the digits under their head, or where the carry left them the next letter with as many `0` as it
-- needs; none after `z`
abbrev pub next_under : ℕ → Option (List ℕ) → Option (List ℕ)
next_under head (Some digits) = Some (head ∷ digits)
next_under head None = if nat_lt head 61 then Some (filled (head + 1) 0) else None

-- the integer part after this one
abbrev pub increment : List ℕ → Option (List ℕ)
increment integer = next_under (slice_index integer 0) (plus_one (drop 1 integer))

-- the digits under their head, or where the borrow left them the letter before with as many `z` as
-- it needs; none before `A`
abbrev pub last_under : ℕ → Option (List ℕ) → Option (List ℕ)
last_under head (Some digits) = Some (head ∷ digits)
last_under head None = if nat_lt 10 head then Some (filled (head - 1) 61) else None

-- the integer part before this one
abbrev pub decrement : List ℕ → Option (List ℕ)
decrement integer = last_under (slice_index integer 0) (minus_one (drop 1 integer))

-- the digit half way, rounded up
abbrev pub half_way : ℕ → ℕ → ℕ
half_way low high = (low + high + 1) / 2

-- the midpoint of a fraction and none: half way to what is past `z`; a `z` stays, and more follows
abbrev pub midpoint_open : List ℕ → List ℕ
midpoint_open [] = half_way 0 62 ∷ []
midpoint_open (low ∷ below) =
    if nat_lt 1 (62 - low) then half_way low 62 ∷ [] else low ∷ midpoint_open below

-- the midpoint of two fractions, the first padded by `0` without end: the digits that they share,
-- then the digit half way; of two digits side by side the greater where it has a digit after it,
-- else the less and what follows it
abbrev pub midpoint_within : List ℕ → List ℕ → List ℕ
midpoint_within below [] = []
midpoint_within below (high ∷ above) =
    if nat_eq (slice_index below 0) high then high ∷ midpoint_within (drop 1 below) above
    else if nat_lt 1 (high - slice_index below 0) then half_way (slice_index below 0) high ∷ []
    else if nat_lt 0 (length above) then high ∷ []
    else slice_index below 0 ∷ midpoint_open (drop 1 below)

-- an integer part that isn't the smallest one
abbrev pub above_smallest : Option (List ℕ) → Option (List ℕ)
above_smallest (Some integer) = if bytes_eq integer smallest then None else Some integer
above_smallest None = None

-- the key below one: its integer part where it has a fraction, else the integer part before it;
-- under the smallest integer part a less fraction; none where only that part alone is left
abbrev pub before : List ℕ → Option (List ℕ)
before above =
    if bytes_eq (integer_part above) smallest
    then Some (smallest ++ midpoint_within [] (fraction_part above))
    else if nat_lt 0 (length (fraction_part above)) then Some (integer_part above)
    else above_smallest (decrement (integer_part above))

-- a key with the integer part of one and a greater fraction
abbrev pub past_fraction : List ℕ → List ℕ
past_fraction below = integer_part below ++ midpoint_open (fraction_part below)

-- the key above one: the integer part after its own, or where there is none a greater fraction
abbrev pub after : List ℕ → List ℕ
after below = unwrap_or (increment (integer_part below)) (past_fraction below)

-- the next integer part where it is less than `above`, else a key with a greater fraction
abbrev pub next_within : List ℕ → List ℕ → Option (List ℕ) → List ℕ
next_within below above (Some next) = if is_less next above then next else past_fraction below
next_within below above None = past_fraction below

-- the key between two: of one integer part the midpoint of their fractions, else the next integer
-- part or a greater fraction
abbrev pub inside : List ℕ → List ℕ → List ℕ
inside below above =
    if bytes_eq (integer_part below) (integer_part above)
    then integer_part below ++ midpoint_within (fraction_part below) (fraction_part above)
    else next_within below above (increment (integer_part below))

-- the key between two ends that are keys and in order, each given or not; none where there is no
-- room
abbrev pub values_between : Option (List ℕ) → Option (List ℕ) → Option (List ℕ)
values_between None None = Some (filled 36 0)
values_between None (Some above) = before above
values_between (Some below) None = Some (after below)
values_between (Some below) (Some above) = Some (inside below above)

-- an end is a key, where it is given
abbrev pub is_key_or_none : Option (List ℕ) → Bool
is_key_or_none None = true
is_key_or_none (Some key) = is_none (first_fault key)

-- the lower end is less, where both are given
abbrev pub is_less_or_open : Option (List ℕ) → Option (List ℕ) → Bool
is_less_or_open (Some below) (Some above) = is_less below above
is_less_or_open None above = true
is_less_or_open (Some below) None = true

-- the text of a key, if there is one and it has at most 256 characters
abbrev pub text_that_fits : Option (List ℕ) → Result (List ℕ) BetweenFault
text_that_fits None = Err NoRoom
text_that_fits (Some values) =
    if nat_lt 256 (length values) then Err KeyTooLong else Ok (text_of values)

-- the key between two ends, each given or not, or the first reason why there is none
unfoldable pub between : Option (List ℕ) → Option (List ℕ) → Result (List ℕ) BetweenFault
between below above =
    if not (is_key_or_none below && is_key_or_none above) then Err NotKey
    else if not (is_less_or_open below above) then Err NotLess
    else text_that_fits (values_between (option_map values_of below) (option_map values_of above))
