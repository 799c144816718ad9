-- Versions of sequences, and the value that stands for them.
use Rattle.std.specs.Prelude.{ℕ, pos, negsuc, List, [], ◌∷◌, Bool, true, false, codes}
use Rattle.std.specs.List.{list_all}
use Rattle.rooms_val.specs.Data.{Data, null, boolean, whole, text, list, map, members_of, Pairs}
use Rattle.rooms_val.specs.Maps.{seen}

-- names of sequences with a version each
abbrev pub Versions : Type 0
Versions = List (List ℕ × ℕ)

-- the versions as a map of numbers
abbrev pub numbers_of : Versions → Pairs
numbers_of vs = seen (λ n. whole (pos n)) vs

-- a schema as it is sent and saved, with what it has under its sequences
abbrev pub schema_pairs : Pairs → Pairs
schema_pairs ps = (codes "schemaVersion", whole (pos 2)) ∷ (codes "sequences", map (members_of ps)) ∷ []

abbrev pub schema_with : Pairs → Data
schema_with ps = map (members_of (schema_pairs ps))

-- the value that stands for versions of sequences
abbrev pub schema_of : Versions → Data
schema_of vs = schema_with (numbers_of vs)

-- the number from 0 that a value is; any other value counts as 0
abbrev pub number_in : Data → ℕ
number_in (whole (pos n)) = n
number_in (whole (negsuc n)) = 0
number_in null = 0
number_in (boolean b) = 0
number_in (text s) = 0
number_in (list ds) = 0
number_in (map ms) = 0

-- a value is a number from 0
abbrev pub is_number : Data → Bool
is_number (whole (pos n)) = true
is_number (whole (negsuc n)) = false
is_number null = false
is_number (boolean b) = false
is_number (text s) = false
is_number (list ds) = false
is_number (map ms) = false

-- each value of a map is a number from 0
abbrev pub are_numbers : Pairs → Bool
are_numbers ps = list_all (λ p. is_number p.1) ps

-- the versions that a map of numbers has
abbrev pub versions_in : Pairs → Versions
versions_in ps = seen number_in ps
