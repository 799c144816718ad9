-- Writes to a node or to the ends of a list.
use Rattle.std.specs.Prelude.{ℕ, List, Option, Some, None, slice_index_or, slice_set}
use Rattle.links_core.specs.declared.nodes.Node.{Node}
use Rattle.links_core.specs.declared.nodes.Ends.{Ends}

-- a node that no list has
abbrev pub unlinked : Node
unlinked = record { list = None; prev = None; next = None }

abbrev pub no_ends : Ends
no_ends = record { first = None; last = None }

abbrev pub with_next : Option ℕ → Node → Node
with_next next node = record node { next = next }

abbrev pub with_prev : Option ℕ → Node → Node
with_prev prev node = record node { prev = prev }

abbrev pub with_first : Option ℕ → Ends → Ends
with_first first ends = record ends { first = first }

abbrev pub with_last : Option ℕ → Ends → Ends
with_last last ends = record ends { last = last }

-- the nodes with one changed, where one is named
abbrev pub write_node : List Node → Option ℕ → (Node → Node) → List Node
write_node nodes None change = nodes
write_node nodes (Some x) change = slice_set nodes x (change (slice_index_or nodes x unlinked))

-- the ends with those of a list changed, where no node is named
abbrev pub write_ends : List Ends → ℕ → Option ℕ → (Ends → Ends) → List Ends
write_ends ends list (Some x) change = ends
write_ends ends list None change = slice_set ends list (change (slice_index_or ends list no_ends))
