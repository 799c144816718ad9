-- Which maps stand for a view.
use Rattle.std.proofs.Common.{◌≡◌, ℕ, List, [], ◌∷◌, if◌then◌else◌, codes, refl, sym, ap, ◌∙◌}
use Rattle.std.specs.Str.{bytes_eq}
use Rattle.rooms_val.specs.Data.{Data, Pairs, text, map, Members, no_members, member, members_of, pairs_of}
use Rattle.rooms_val.proofs.DataLemmas.{pairs_of-members_of}
use Rattle.shape_tree.specs.declared.view.View.{View}
use Rattle.shape_tree.specs.declared.view.View.TheVariants as view
use Rattle.view_vals.specs.Views.{text_alone, view_data}

abbrev members_in : Data → Members
members_in (map ms) = ms
members_in d = no_members

-- a map of one text has this key and text alone
pub one_entry : (ps fields : Pairs) (d : Data) (key id : List ℕ) → ps ≡ fields → d ≡ map (members_of fields) → d ≡ text_alone key id → ps ≡ (key, text id) ∷ []
one_entry ps fields d key id view is one = view ∙ sym (pairs_of-members_of fields) ∙ ap (λ x. pairs_of (members_in x)) (sym is ∙ one)

-- the view of a value that is that of one
abbrev view_in : Data → View
view_in (map (member key (text id) rest)) =
    if bytes_eq key (codes "box") then view.Box id
    else if bytes_eq key (codes "tree") then view.Tree id
    else if bytes_eq key (codes "bound") then view.Bound id
    else view.Count id
view_in d = view.Count []

view_in-view_data : (v : View) → view_in (view_data v) ≡ v
view_in-view_data (view.Box id) = refl
view_in-view_data (view.Tree page) = refl
view_in-view_data (view.Bound id) = refl
view_in-view_data (view.Count page) = refl

-- each value is that of one view at most
pub one_view : (v w : View) → view_data v ≡ view_data w → v ≡ w
one_view v w same = sym (view_in-view_data v) ∙ ap view_in same ∙ view_in-view_data w
