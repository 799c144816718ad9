-- Rules over keys that are numbers.
use Rattle.std.specs.Prelude.{ℕ, ◌+◌, ◌-◌, ◌*◌, ◌/◌, ◌%◌, ◌^◌, Bool, true, false, ◌&&◌, if◌then◌else◌, nat_eq, nat_lt, nat_le, List, length, slice_index}
use Rattle.signal_rules.specs.declared.rules.Ask.{Ask}
use Rattle.signal_rules.specs.declared.rules.Ask.TheVariants.{Need, Done}
use Rattle.signal_rules.specs.Meaning.{Meaning}

-- the first eight bits of a key are its rank, the others its place
abbrev pub rank_of : ℕ → ℕ
rank_of key = key / 72057594037927936

abbrev pub place_of : ℕ → ℕ
place_of key = key % 72057594037927936

-- the key of a rank and a place
abbrev pub key_of : ℕ → ℕ → ℕ
key_of rank place = rank * 72057594037927936 + place

-- what a key asks for first: at rank 1 the atom on which it stands with the 2^20 keys round it, above it place 1 of the
-- rank below
abbrev pub first_of : ℕ → ℕ
first_of key = if nat_le (rank_of key) 1 then place_of key / 1048576 else key_of (rank_of key - 1) 1

-- what it asks for then, at place 0 alone: at rank 1 atom 1 where atom 0 is 0, and else atom 2; above it place 2 of the
-- rank below
abbrev pub second_of : ℕ → ℕ → ℕ
second_of key answer =
    if nat_lt 0 (place_of key) then key else if nat_lt 1 (rank_of key) then key_of (rank_of key - 1) 2 else if nat_eq answer 0 then 1 else 2

abbrev pub next_of : ℕ → List ℕ → ℕ
next_of key got = if nat_eq (length got) 0 then first_of key else second_of key (slice_index got 0)

-- a sum, up to 2^64 - 1
abbrev pub capped : ℕ → ℕ → ℕ
capped a b = if nat_le a (2 ^ 64 - 1 - b) then a + b else 2 ^ 64 - 1

-- what it comes to: of two answers at rank 1 the last, above it the sum, and else the only one
abbrev pub outcome_of : ℕ → List ℕ → ℕ
outcome_of key got =
    if nat_lt (length got) 2 then slice_index got 0 else if nat_le (rank_of key) 1 then slice_index got 1 else capped (slice_index got 0) (slice_index got 1)

-- a key that is needed, or else the value
abbrev pub needed_or : Bool → ℕ → ℕ → Ask ℕ ℕ
needed_or true next v = Need next
needed_or false next v = Done v

-- a key asks for no more than two, of lower rank
abbrev pub asked_of : ℕ → List ℕ → Ask ℕ ℕ
asked_of key got =
    needed_or (nat_lt (length got) 2 && nat_lt (rank_of (next_of key got)) (rank_of key)) (next_of key got) (outcome_of key got)

-- atoms that were never set are 0
abbrev pub number_rules : Meaning ℕ ℕ
number_rules = record { rank = rank_of; blank = λ key. 0; ask = asked_of }
