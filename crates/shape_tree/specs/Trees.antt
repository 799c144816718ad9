-- The shapes below a page or a shape, in order.
use Rattle.std.specs.Prelude.{ℕ, zero, suc, List, [], ◌∷◌, Bool, ◌&&◌, ◌||◌, bytes_eq, codes, map, filter, length, take}
use Rattle.std.specs.List.{flat_map}
use Rattle.std.specs.declared.cmp.Ordering.{Ordering}
use Rattle.std.specs.Ordering.{ordering_then}
use Rattle.rooms_val.specs.Data.{Data, Pairs}
use Rattle.rooms_val.specs.Maps.{order, ties}
use Rattle.shape_tree.specs.declared.limits.TheConstants.{MOST_LEVELS, MOST_SHAPES}
use Rattle.shape_tree.specs.Records.{text_or_empty, is_shape, is_binding}
use Rattle.shape_tree.specs.Sorting.{in_order}

-- where a shape stands among the children of its parent
pub record Sibling : Type 0 where
  pub index : List ℕ
  pub id : List ℕ

abbrev pub sibling_of : List ℕ × Data → Sibling
sibling_of e = record { index = text_or_empty e.1 (codes "index"); id = e.0 }

-- by index, and then by id
abbrev pub sibling_order : Sibling → Sibling → Ordering
sibling_order s t = ordering_then (order s.index t.index) (order s.id t.id)

-- the entry of a map is a shape with this parent
abbrev pub is_child : List ℕ → List ℕ × Data → Bool
is_child parent e = is_shape e.0 && ties (text_or_empty e.1 (codes "parentId")) parent

-- the shapes with this parent, in order
abbrev pub children : Pairs → List ℕ → List (List ℕ)
children m parent = map (λ s. s.id) (in_order sibling_order (map sibling_of (filter (is_child parent) m)))

-- the shapes down to so many levels below a parent: each child, and after it those below it
unfoldable pub descendants : ℕ → Pairs → List ℕ → List (List ℕ)
descendants zero m parent = []
descendants (suc levels) m parent = flat_map (λ child. child ∷ descendants levels m child) (children m parent)

-- how many levels a tree or a box looks down, how many shapes a tree lists, and how many children a box looks at
abbrev pub most_levels : ℕ
most_levels = MOST_LEVELS

abbrev pub most_shapes : ℕ
most_shapes = MOST_SHAPES

-- the shapes below a page
abbrev pub tree : Pairs → List ℕ → List (List ℕ)
tree m page = take most_shapes (descendants most_levels m page)

-- how many shapes the tree of a page lists
abbrev pub count : Pairs → List ℕ → ℕ
count m page = length (tree m page)

-- the bindings with an end at an id, by their ids
abbrev pub bound : Pairs → List ℕ → List (List ℕ)
bound m id =
    let ends = λ (d : Data). bytes_eq (text_or_empty d (codes "fromId")) id || bytes_eq (text_or_empty d (codes "toId")) id in
    map (λ e. e.0) (filter (λ e. is_binding e.0 && ends e.1) m)
