-- Several keys between two ends, one `between` after another.
use Rattle.std.specs.Prelude.{ℕ, zero, suc, ◌+◌, ◌-◌, ◌/◌, List, [], ◌∷◌, ◌++◌, Option, Some, None, Result, Ok, Err}
use Rattle.index_keys.specs.Between.{between}
use Rattle.index_keys.specs.declared.fault.BetweenFault.{BetweenFault}

-- keys by their bytes, or why there are none
abbrev pub Keys : Type 0
Keys = Result (List (List ℕ)) BetweenFault

-- what follows from a key, or the refusal that stands in its place
abbrev pub with_key : Result (List ℕ) BetweenFault → (List ℕ → Keys) → Keys
with_key (Ok key) rest = rest key
with_key (Err fault) rest = Err fault

-- what follows from keys, or the refusal that stands in their place
abbrev pub with_keys : Keys → (List (List ℕ) → Keys) → Keys
with_keys (Ok keys) rest = rest keys
with_keys (Err fault) rest = Err fault

-- keys after those that are there
abbrev pub joined_to : List (List ℕ) → Keys → Keys
joined_to front keys = with_keys keys (λ made. Ok (front ++ made))

-- the last of the keys, or the end where there is none
abbrev pub last_or : List (List ℕ) → Option (List ℕ) → Option (List ℕ)
last_or [] end = end
last_or (key ∷ keys) end = last_or keys (Some key)

-- the first of them above `below`, and each further one above the one before it
abbrev pub rising_from : ℕ → Option (List ℕ) → Keys
rising_from zero below = Ok []
rising_from (suc count) below =
    with_key (between below None) (λ key.
    with_keys (rising_from count (Some key)) (λ rest. Ok (key ∷ rest)))

-- the last of them below `above`, and each earlier one below the one after it
abbrev pub rising_to : ℕ → Option (List ℕ) → Keys
rising_to zero above = Ok []
rising_to (suc count) above =
    with_key (between None above) (λ key.
    with_keys (rising_to count (Some key)) (λ rest. Ok (rest ++ key ∷ [])))

-- the keys before a middle key, it, and those after it
abbrev pub around : Keys → List ℕ → Keys → Keys
around firsts key lasts =
    with_keys firsts (λ before. with_keys lasts (λ after. Ok (before ++ key ∷ after)))

-- a key between two, and around it the halves of the others, made in the same way; a depth of their
-- count is enough
abbrev pub halves : ℕ → List ℕ → List ℕ → ℕ → Keys
halves zero below above count = Ok []
halves (suc depth) below above zero = Ok []
halves (suc depth) below above (suc others) =
    with_key (between (Some below) (Some above)) (λ key.
    around
    (halves depth below key ((others + 1) / 2))
    key
    (halves depth key above (others - (others + 1) / 2)))

-- so many rising keys between two ends, each given or not, or the refusal of the first `between` that
-- refuses
abbrev pub several : Option (List ℕ) → Option (List ℕ) → ℕ → Keys
several below None count = rising_from count below
several None (Some above) count = rising_to count (Some above)
several (Some below) (Some above) count = halves count below above count
