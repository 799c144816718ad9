-- The one value by which each view is written.
use Rattle.std.specs.Prelude.{◌≡◌, ℕ, List, [], ◌∷◌, codes}
use Rattle.rooms_val.specs.Data.{Data, text, map, members_of}
use Rattle.shape_tree.specs.declared.view.View.{View}
use Rattle.shape_tree.specs.declared.view.View.TheVariants as view

-- the map of a text under a key alone
abbrev pub text_alone : List ℕ → List ℕ → Data
text_alone key id = map (members_of ((key, text id) ∷ []))

-- the value of a view: `{"box":ID}`, `{"tree":ID}`, `{"bound":ID}` or `{"count":ID}`
abbrev pub view_data : View → Data
view_data (view.Box id) = text_alone (codes "box") id
view_data (view.Tree page) = text_alone (codes "tree") page
view_data (view.Bound id) = text_alone (codes "bound") id
view_data (view.Count page) = text_alone (codes "count") page

-- the value is that of no view
abbrev pub IsNoView : Data → Type 0
IsNoView d = (v : View) → ¬ (d ≡ view_data v)
