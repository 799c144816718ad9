-- How the value of a key is told.
use Rattle.std.specs.Prelude.{◌≡◌, ℕ, ◌≤◌, pos, min, List, map, Option}
use Rattle.rooms_val.specs.Data.{Data, null, whole}
use Rattle.rooms_val.specs.View.{data_of}
use Rattle.rooms_val.specs.declared.val.Val.{Val}
use Rattle.signal_core.specs.declared.watch.WatchId.{WatchId}
use Rattle.shape_tree.specs.Trees.{most_levels, most_shapes}
use Rattle.shape_tree.specs.Views.{box_data, ids_data}
use Rattle.shape_tree.specs.declared.rect.Rect.{Rect}
use Rattle.shape_tree.specs.declared.view.View.{View}
use Rattle.shape_tree.specs.declared.view.View.TheVariants as view
use Rattle.tl_rules.specs.declared.key.TlKey.{TlKey}
use Rattle.tl_rules.specs.declared.key.TlKey.TheVariants as key
use Rattle.tl_rules.specs.declared.value.TlValue.{TlValue}
use Rattle.tl_rules.specs.declared.value.TlValue.TheVariants as value

-- the key that a view asks for
abbrev pub key_of : View → TlKey
key_of (view.Box id) = key.Box id most_levels
key_of (view.Tree page) = key.Tree page
key_of (view.Bound id) = key.Bound id
key_of (view.Count page) = key.Count page

-- the value by which an answer is told; a count is at most the shapes that a tree lists
abbrev pub told_of : TlValue → Data
told_of (value.Rec r) = null
told_of (value.Ids ids) = ids_data ids
told_of (value.Number n) = whole (pos (min n most_shapes))
told_of (value.Rect r) = box_data r

-- an answer is of the kind that the view asks for
abbrev pub Answers : View → TlValue → Type 0
Answers (view.Box id) v = (r : Option Rect) × (v ≡ value.Rect r)
Answers (view.Tree page) v = (ids : List (List ℕ)) × (v ≡ value.Ids ids)
Answers (view.Bound id) v = (ids : List (List ℕ)) × (v ≡ value.Ids ids)
Answers (view.Count page) v = (n : ℕ) × (v ≡ value.Number n) × (n ≤ most_shapes)

-- answers by the number of their watch, as they are told
abbrev pub as_told : List (WatchId × TlValue) → List (ℕ × Data)
as_told due = map {B = ℕ × Data} (λ d. (d.0.number, told_of d.1)) due

-- values by the number of their watch
abbrev pub by_number : List (WatchId × Val) → List (ℕ × Data)
by_number told = map {B = ℕ × Data} (λ t. (t.0.number, data_of t.1)) told
