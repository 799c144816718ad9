-- The types of shapes, each with the properties of its shapes.
use Rattle.std.specs.Prelude.{ℕ, nat_le, List, [], ◌∷◌, if◌then◌else◌, codes}
use Rattle.record_valid.specs.Tree.{CheckTree, one_of, id_of, nullable, list_of, boolean}
use Rattle.tl_tables.specs.Fields.{always, since, object_at, by_type_at}
use Rattle.tl_tables.specs.Parts.{coordinate, extent, point, color, dash, fill, size, long_text, short_text}

-- the name of the form without corners, which was another up to version 2
unfoldable pub round_form : ℕ → List ℕ
round_form version = if nat_le version 2 then codes "oval" else codes "ellipse"

unfoldable pub forms : ℕ → CheckTree
forms version = one_of (codes "rectangle" ∷ round_form version ∷ codes "triangle" ∷ codes "diamond" ∷ [])

unfoldable pub geo : ℕ → CheckTree
geo version = object_at version (
    always (codes "geo") (forms version)
    ∷ always (codes "w") extent
    ∷ always (codes "h") extent
    ∷ always (codes "color") color
    ∷ always (codes "fill") fill
    ∷ since 3 (codes "dash") dash
    ∷ always (codes "size") size
    ∷ always (codes "text") long_text
    ∷ [])

unfoldable pub draw : ℕ → CheckTree
draw version = object_at version (
    always (codes "points") (list_of (point version))
    ∷ always (codes "isClosed") boolean
    ∷ always (codes "color") color
    ∷ always (codes "size") size
    ∷ [])

unfoldable pub arrow : ℕ → CheckTree
arrow version = object_at version (
    always (codes "start") (point version)
    ∷ always (codes "end") (point version)
    ∷ always (codes "bend") coordinate
    ∷ always (codes "color") color
    ∷ always (codes "size") size
    ∷ always (codes "text") long_text
    ∷ [])

unfoldable pub text : ℕ → CheckTree
text version = object_at version (
    always (codes "text") long_text
    ∷ always (codes "w") extent
    ∷ always (codes "h") extent
    ∷ always (codes "autoSize") boolean
    ∷ always (codes "color") color
    ∷ always (codes "size") size
    ∷ [])

unfoldable pub frame : ℕ → CheckTree
frame version = object_at version (always (codes "w") extent ∷ always (codes "h") extent ∷ always (codes "name") short_text ∷ [])

unfoldable pub group : ℕ → CheckTree
group version = object_at version []

unfoldable pub note : ℕ → CheckTree
note version = object_at version (always (codes "text") long_text ∷ always (codes "color") color ∷ always (codes "size") size ∷ [])

unfoldable pub image : ℕ → CheckTree
image version = object_at version (
    always (codes "w") extent
    ∷ always (codes "h") extent
    ∷ always (codes "assetId") (nullable (id_of (codes "asset" ∷ [])))
    ∷ [])

-- the names of the types of shapes
unfoldable pub shape_types : CheckTree
shape_types = one_of (codes "geo" ∷ codes "draw" ∷ codes "arrow" ∷ codes "text" ∷ codes "frame" ∷ codes "group" ∷ codes "note" ∷ codes "image" ∷ [])

-- the properties of a shape, by its type
unfoldable pub shape_props : ℕ → CheckTree
shape_props version = by_type_at version (
    always (codes "geo") (geo version)
    ∷ always (codes "draw") (draw version)
    ∷ always (codes "arrow") (arrow version)
    ∷ always (codes "text") (text version)
    ∷ always (codes "frame") (frame version)
    ∷ always (codes "group") (group version)
    ∷ always (codes "note") (note version)
    ∷ always (codes "image") (image version)
    ∷ [])
