-- Values that are all texts.
use Rattle.std.proofs.Common.{◌≡◌, ℕ, zero, suc, ◌<◌, List, [], ◌∷◌, length, map, get_or, refl, sym, ap, ◌∙◌, arith}
use Rattle.rooms_val.specs.Data as data'
use Rattle.rooms_val.specs.Data.{Data, text, items_of, list_of}
use Rattle.rooms_val.specs.View.{data_of, items_view, val_of}
use Rattle.rooms_val.specs.declared.val.Val.{Val}
use Rattle.rooms_val.specs.declared.val.Val.TheVariants as v
use Rattle.rooms_val.proofs.DataLemmas.{list_of-items_of, val_of-data_of}
use Rattle.shape_tree.specs.Views.{ids_data}

-- values one of which is no text are no texts
pub no_texts : (vals : List Val) (ids : List (List ℕ)) (n : ℕ) (one : Val) → n < length vals → one ≡ get_or vals n one → ((t : List ℕ) → ¬ (one ≡ v.Text t))
    → ¬ (items_view vals ≡ map text ids)
no_texts [] ids n one less here other is = absurd (omega (arith, less))
no_texts (x ∷ vals) [] n one less here other is = absurd (cc)
no_texts (x ∷ vals) (id ∷ ids) zero one less here other is =
    let first : data_of x ≡ text id = cc in
    other id (here ∙ sym (val_of-data_of x) ∙ ap val_of first)
no_texts (x ∷ vals) (id ∷ ids) (suc n) one less here other is =
    let rest : items_view vals ≡ map text ids = cc in
    no_texts vals ids n one (omega (arith, less)) here other rest

abbrev items_in : Data → List Data
items_in (data'.list ds) = list_of ds
items_in d = []

-- what is the list of some ids has these as its items
pub same_items : (ds : List Data) (ids : List (List ℕ)) → data'.list (items_of ds) ≡ ids_data ids → ds ≡ map text ids
same_items ds ids is = sym (list_of-items_of ds) ∙ ap items_in is ∙ list_of-items_of (map text ids)
