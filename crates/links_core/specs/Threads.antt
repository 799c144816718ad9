-- How nodes and ends hold lists.
use Rattle.std.specs.Prelude.{◌≡◌, ℕ, zero, suc, ◌<◌, List, [], ◌∷◌, map, length, Option, Some, None, slice_get, slice_index_or}
use Rattle.links_core.specs.declared.nodes.Node.{Node}
use Rattle.links_core.specs.declared.nodes.Ends.{Ends}
use Rattle.links_core.specs.Lists.{list_at, IsLinked, IsApart, first_or, last_or}
use Rattle.links_core.specs.Writes.{unlinked}

-- the nodes from one on, each the next of the one before, at most so many
abbrev pub walk : List Node → ℕ → Option ℕ → List ℕ
walk nodes zero at = []
walk nodes (suc most) None = []
walk nodes (suc most) (Some x) = x ∷ walk nodes most (slice_index_or nodes x unlinked).next

-- each list, by following it from its first node
abbrev pub walks : List Node → List Ends → List (List ℕ)
walks nodes ends = map (λ pair. walk nodes (length nodes) pair.first) ends

-- the nodes are threaded one after the other in a list, between two neighbours
abbrev pub IsThreaded : List Node → ℕ → Option ℕ → List ℕ → Option ℕ → Type 0
IsThreaded nodes number before [] after = Unit {0}
IsThreaded nodes number before (x ∷ xs) after =
    (slice_get nodes x ≡ Some (record { list = Some number; prev = before; next = first_or xs after })) × IsThreaded nodes number (Some x) xs after

-- one list: its ends are its first and last, and its nodes are threaded
pub record IsThread (nodes : List Node) (ends : List Ends) (number : ℕ) (xs : List ℕ) : Type 0 where
  pub bounds : slice_get ends number ≡ Some (record { first = first_or xs None; last = last_or xs None })
  pub threaded : IsThreaded nodes number None xs None
  pub apart : IsApart xs

-- nodes and ends hold these lists, and what no list has is unlinked
pub record AreThreads (nodes : List Node) (ends : List Ends) (lists : List (List ℕ)) : Type 0 where
  pub same_length : length ends ≡ length lists
  pub each : (number : ℕ) → number < length lists → IsThread nodes ends number (list_at lists number)
  pub idle : (x : ℕ) (node : Node) → slice_get nodes x ≡ Some node → (IsLinked lists x → ⊥) → node ≡ unlinked
