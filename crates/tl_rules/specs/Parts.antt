-- Where a place among the ids of some parts is.
use Rattle.std.specs.Prelude.{◌≡◌, ℕ, ◌+◌, ◌≤◌, List, length, take, drop}
use Rattle.tl_rules.specs.Ids.{flat}

-- a place is so far into a part, from where on the part has at least so many ids
pub record IsIn (parts : List (List (List ℕ))) (place wanted at offset : ℕ) : Type 0 where
  pub there : at ≤ length parts
  pub before : length (flat (take at parts)) + offset ≡ place
  pub fits : offset + wanted ≤ length (flat (take 1 (drop at parts)))
