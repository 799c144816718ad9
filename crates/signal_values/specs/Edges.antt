-- Edges, as contracts see them.
use Rattle.std.specs.Prelude.{ℕ, List, Contains}
use Rattle.links_core.specs.Lists.{list_at}

-- what contracts see of `Edges`: the children of each row, and how many more edges need no memory
pub record Children : Type 0 where
  pub children : List (List ℕ)
  pub spare : ℕ

-- there is an edge from a parent to a child
abbrev pub Feeds : List (List ℕ) → ℕ → ℕ → Type 0
Feeds children parent child = Contains (list_at children parent) child
