-- The types of records.
use Rattle.std.specs.Prelude.{ℕ, pos, List, [], ◌∷◌, codes}
use Rattle.record_valid.specs.Tree.{CheckTree, whole, one_of, boolean, key, id_of, nullable, list_of}
use Rattle.schema_core.specs.Tree.{TypeTree, Types}
use Rattle.schema_core.specs.declared.row.Scope.TheVariants.{Document, Session, Presence}
use Rattle.tl_tables.specs.Fields.{always, since, until, object_at, row}
use Rattle.tl_tables.specs.Parts.{coordinate, extent, point, long_text, short_text}
use Rattle.tl_tables.specs.Shapes.{shape_types, shape_props}

unfoldable pub document : ℕ → List ℕ × TypeTree
document version = row version (codes "document") Document (
    always (codes "name") short_text
    ∷ always (codes "gridSize") (whole (pos 1) (pos 1000))
    ∷ [])

unfoldable pub page : ℕ → List ℕ × TypeTree
page version = row version (codes "page") Document (
    always (codes "name") short_text
    ∷ always (codes "index") key
    ∷ since 5 (codes "hidden") boolean
    ∷ [])

unfoldable pub shape : ℕ → List ℕ × TypeTree
shape version = row version (codes "shape") Document (
    always (codes "type") shape_types
    ∷ always (codes "x") coordinate
    ∷ always (codes "y") coordinate
    ∷ always (codes "rotation") coordinate
    ∷ always (codes "index") key
    ∷ always (codes "parentId") (id_of (codes "page" ∷ codes "shape" ∷ []))
    ∷ always (codes "isLocked") boolean
    ∷ until 1 (codes "alpha") (whole (pos 0) (pos 10))
    ∷ since 2 (codes "opacity") (whole (pos 0) (pos 100))
    ∷ always (codes "props") (shape_props version)
    ∷ [])

-- the size of an asset, whose sides stood beside the other properties up to version 3
unfoldable pub dims : ℕ → CheckTree
dims version = object_at version (always (codes "w") extent ∷ always (codes "h") extent ∷ [])

unfoldable pub asset_props : ℕ → CheckTree
asset_props version = object_at version (
    until 3 (codes "w") extent
    ∷ until 3 (codes "h") extent
    ∷ since 4 (codes "dims") (dims version)
    ∷ always (codes "name") short_text
    ∷ always (codes "src") (nullable long_text)
    ∷ always (codes "mimeType") (nullable short_text)
    ∷ [])

unfoldable pub asset : ℕ → List ℕ × TypeTree
asset version = row version (codes "asset") Document (always (codes "type") (one_of (codes "image" ∷ [])) ∷ always (codes "props") (asset_props version) ∷ [])

-- where on a shape an arrow ends, in thousandths of its size
unfoldable pub anchor : ℕ → CheckTree
anchor version = object_at version (always (codes "x") (whole (pos 0) (pos 1000)) ∷ always (codes "y") (whole (pos 0) (pos 1000)) ∷ [])

unfoldable pub binding_props : ℕ → CheckTree
binding_props version = object_at version (
    always (codes "terminal") (one_of (codes "start" ∷ codes "end" ∷ []))
    ∷ until 2 (codes "anchorX") (whole (pos 0) (pos 1000))
    ∷ until 2 (codes "anchorY") (whole (pos 0) (pos 1000))
    ∷ since 3 (codes "anchor") (anchor version)
    ∷ always (codes "isExact") boolean
    ∷ [])

unfoldable pub binding : ℕ → List ℕ × TypeTree
binding version = row version (codes "binding") Document (
    always (codes "type") (one_of (codes "arrow" ∷ []))
    ∷ always (codes "fromId") (id_of (codes "shape" ∷ []))
    ∷ always (codes "toId") (id_of (codes "shape" ∷ []))
    ∷ always (codes "props") (binding_props version)
    ∷ [])

unfoldable pub camera : ℕ → List ℕ × TypeTree
camera version = row version (codes "camera") Session (
    always (codes "x") coordinate
    ∷ always (codes "y") coordinate
    ∷ always (codes "z") (whole (pos 1) (pos 100000))
    ∷ [])

unfoldable pub instance : ℕ → List ℕ × TypeTree
instance version = row version (codes "instance") Session (always (codes "currentPageId") (id_of (codes "page" ∷ [])) ∷ [])

unfoldable pub instance_presence : ℕ → List ℕ × TypeTree
instance_presence version = row version (codes "instance_presence") Presence (
    always (codes "userName") short_text
    ∷ always (codes "color") short_text
    ∷ always (codes "currentPageId") (id_of (codes "page" ∷ []))
    ∷ always (codes "cursor") (nullable (point version))
    ∷ always (codes "selectedShapeIds") (list_of (id_of (codes "shape" ∷ [])))
    ∷ [])

-- the types of records at a version
unfoldable pub type_rows : ℕ → Types
type_rows version =
    document version ∷ page version ∷ shape version ∷ asset version ∷ binding version ∷ camera version ∷ instance version ∷ instance_presence version ∷ []
