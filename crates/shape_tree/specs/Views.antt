-- What views tell of a map.
use Rattle.std.specs.Prelude.{ℕ, ℤ, pos, List, [], ◌∷◌, Option, None, Some, codes}
use Rattle.std.specs.Prelude as std
use Rattle.rooms_val.specs.Data.{Data, null, whole, text, list, map, items_of, members_of, Pairs}
use Rattle.shape_tree.specs.declared.rect.Rect.{Rect}
use Rattle.shape_tree.specs.declared.view.View.{View}
use Rattle.shape_tree.specs.declared.view.View.TheVariants.{Box, Tree, Bound, Count}
use Rattle.shape_tree.specs.Boxes.{box}
use Rattle.shape_tree.specs.Trees.{tree, bound, count, most_levels}

-- the value by which a box is told
abbrev pub box_data : Option Rect → Data
box_data None = null
box_data (Some r) = map (members_of ((codes "h", whole r.h) ∷ (codes "w", whole r.w) ∷ (codes "x", whole r.x) ∷ (codes "y", whole r.y) ∷ []))

-- the value by which ids are told
abbrev pub ids_data : List (List ℕ) → Data
ids_data ids = list (items_of (std.map text ids))

-- what a view tells
abbrev pub told : Pairs → View → Data
told m (Box id) = box_data (box most_levels m id)
told m (Tree page) = ids_data (tree m page)
told m (Bound id) = ids_data (bound m id)
told m (Count page) = whole (pos (count m page))
