-- How nodes in two sets of lists hold edges.
use Rattle.std.specs.Prelude.{◌≡◌, ℕ, suc, ◌<◌, ◌⊎◌, List, [], ◌∷◌, ◌++◌, map, length, slice_index_or, Contains}
use Rattle.links_core.specs.Lists.{Lists, list_at, IsLinked, AreSound}

-- the child of an edge
abbrev pub child_at : List ℕ → ℕ → ℕ
child_at ends edge = slice_index_or ends edge 0

-- the children of each row
abbrev pub children_of : List ℕ → List (List ℕ) → List (List ℕ)
children_of ends lists = map (map (child_at ends)) lists

-- each edge stands in the list of its parent and in that of its child, which comes after the list of free nodes
pub record AreWired (parents kids : List (List ℕ)) (parent_count kid_count : ℕ) (ends : List ℕ) : Type 0 where
  pub parent_made : parent_count ≡ length ends
  pub kid_made : kid_count ≡ length ends
  pub parent_sound : AreSound parents parent_count
  pub kid_sound : AreSound kids kid_count
  pub rows : length parents < length kids
  pub into : (parent edge : ℕ) → Contains (list_at parents parent) edge → Contains (list_at kids (suc (child_at ends edge))) edge
  pub out : (child edge : ℕ) → Contains (list_at kids (suc child)) edge → IsLinked parents edge × (child_at ends edge ≡ child)

-- a node was taken for an edge to a child: it is in no list, and the other edges are as they were
pub record IsTaken (parents kids parents_after kids_after : Lists) (ends ends_after : List ℕ) (child edge : ℕ) : Type 0 where
  pub wired : AreWired parents_after.lists kids_after.lists parents_after.count kids_after.count ends_after
  pub lists : parents_after.lists ≡ parents.lists
  pub rows : length kids_after.lists ≡ length kids.lists
  pub same : children_of ends_after parents_after.lists ≡ children_of ends parents.lists
  pub here : child_at ends_after edge ≡ child
  pub made : edge < length ends_after
  pub no_parent : IsLinked parents_after.lists edge → ⊥
  pub no_kid : IsLinked kids_after.lists edge → ⊥

-- the lists are the same, or there is one more, which is empty
abbrev pub HaveGrown : List (List ℕ) → List (List ℕ) → Type 0
HaveGrown before now = (now ≡ before) ⊎ (now ≡ before ++ [] ∷ [])
