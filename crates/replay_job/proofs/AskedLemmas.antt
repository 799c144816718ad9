-- The query and the view of each value that is that of one.
use Rattle.std.proofs.Common.{◌≡◌, suc, ℤ, List, [], ◌∷◌, length, map, if◌then◌else◌, codes, refl, sym, ap, subst, ◌∙◌, arith}
use Rattle.std.specs.Global.{Vec}
use Rattle.std.specs.Prelude.{pos}
use Rattle.std.specs.Str.{bytes_eq}
use Rattle.rooms_val.specs.Data.{Data, Items, no_items, item, items_of, text, whole, list, map as map_of, member}
use Rattle.rooms_val.specs.View.{data_of, val_of}
use Rattle.rooms_val.proofs.DataLemmas.{val_of-data_of}
use Rattle.shape_tree.specs.declared.query.Query.{Query}
use Rattle.shape_tree.specs.declared.query.Query.TheVariants as query
use Rattle.shape_tree.specs.declared.query.Query.TheOpen.{Query-F}
use Rattle.shape_tree.specs.declared.query.Query.TheFolds.{map-Query, fold-roll-Query, ind-Query}
use Rattle.shape_tree.specs.declared.view.View.{View}
use Rattle.shape_tree.specs.declared.view.View.TheVariants as view
use Rattle.replay_job.proofs.VecLemmas.{fitted, fitted_is, vec_of, box_of}
use Rattle.view_vals.specs.Queries.{named, data_with, query_data}
use Rattle.view_vals.specs.Views.{view_data}

abbrev number_in : Data → ℤ
number_in (whole z) = z
number_in d = pos 0

-- the query of a value that is that of one
abbrev mutual
  pub query_in : Data → Query
  query_in (list (item (text name) (item d no_items))) =
      if bytes_eq name (codes "not") then query.Not (box_of (query_in d))
      else if bytes_eq name (codes "and") then query.And (vec_of (queries_in d))
      else query.Or (vec_of (queries_in d))
  query_in (list (item (text name) (item (text field) (item d no_items)))) =
      if bytes_eq name (codes "eq") then query.Eq field (val_of d)
      else if bytes_eq name (codes "neq") then query.Neq field (val_of d)
      else query.Gt field (number_in d)
  query_in d = query.Gt [] (pos 0)

  queries_in : Data → List Query
  queries_in (list ds) = each_in ds
  queries_in d = []

  each_in : Items → List Query
  each_in no_items = []
  each_in (item d ds) = query_in d ∷ each_in ds

-- a query whose value is that of the query of its value
abbrev Again : Type 0
Again = (q : Query) × (query_data (query_in (query_data q)) ≡ query_data q)

abbrev datas : List Again → List Data
datas qs = map query_data (map (λ q. q.0) qs)

all_again : (qs : List Again) → map query_data (each_in (items_of (datas qs))) ≡ datas qs
all_again [] = refl
all_again (q ∷ qs) = λ i. q.1 i ∷ all_again qs i

as_many : (qs : List Again) → length (each_in (items_of (datas qs))) ≡ length qs
as_many [] = refl
as_many (q ∷ qs) = ap suc (as_many qs)

-- the values of the queries of a `Vec`
vec_again : (qs : Vec Again) → map query_data (fitted (each_in (items_of (datas qs.items)))) ≡ datas qs.items
vec_again qs =
    ap (map query_data) (fitted_is (each_in (items_of (datas qs.items))) (omega (arith, as_many qs.items, qs.ok.0, qs.ok.1, qs.small)))
    ∙ all_again qs.items

abbrev layer_data : Query-F Again → Data
layer_data layer = data_with (map-Query Query Data query_data (map-Query Again Query (λ q. q.0) layer))

layer_again : (layer : Query-F Again) → query_data (query_in (layer_data layer)) ≡ layer_data layer
layer_again (Query-F.Eq field value) =
    ap query_data (sym (query.rolls-Eq field (val_of (data_of value)))) ∙ fold-roll-Query Data data_with (Query-F.Eq field (val_of (data_of value)))
    ∙ ap (λ v. named (codes "eq") (text field ∷ data_of v ∷ [])) (val_of-data_of value)
layer_again (Query-F.Neq field value) =
    ap query_data (sym (query.rolls-Neq field (val_of (data_of value)))) ∙ fold-roll-Query Data data_with (Query-F.Neq field (val_of (data_of value)))
    ∙ ap (λ v. named (codes "neq") (text field ∷ data_of v ∷ [])) (val_of-data_of value)
layer_again (Query-F.Gt field number) = ap query_data (sym (query.rolls-Gt field number)) ∙ fold-roll-Query Data data_with (Query-F.Gt field number)
layer_again (Query-F.And queries) =
    let found = vec_of (each_in (items_of (datas queries.items))) in
    ap query_data (sym (query.rolls-And found)) ∙ fold-roll-Query Data data_with (Query-F.And found)
    ∙ ap (λ ds. named (codes "and") (list (items_of ds) ∷ [])) (vec_again queries)
layer_again (Query-F.Or queries) =
    let found = vec_of (each_in (items_of (datas queries.items))) in
    ap query_data (sym (query.rolls-Or found)) ∙ fold-roll-Query Data data_with (Query-F.Or found)
    ∙ ap (λ ds. named (codes "or") (list (items_of ds) ∷ [])) (vec_again queries)
layer_again (Query-F.Not asked) =
    let found = box_of (query_in (query_data asked.value.0)) in
    ap query_data (sym (query.rolls-Not found)) ∙ fold-roll-Query Data data_with (Query-F.Not found)
    ∙ ap (λ d. named (codes "not") (d ∷ [])) asked.value.1

pub query_again : (q : Query) → query_data (query_in (query_data q)) ≡ query_data q
query_again =
    ind-Query (λ q. query_data (query_in (query_data q)) ≡ query_data q) (λ x y is.
    subst (λ d. query_data (query_in d) ≡ d) (sym (fold-roll-Query Data data_with x))
    (subst (λ l. query_data (query_in (data_with (map-Query Query Data query_data l))) ≡ data_with (map-Query Query Data query_data l)) is (layer_again y)))

-- the view of a value that is that of one
abbrev pub view_in : Data → View
view_in (map_of (member key (text id) rest)) =
    if bytes_eq key (codes "box") then view.Box id
    else if bytes_eq key (codes "tree") then view.Tree id
    else if bytes_eq key (codes "bound") then view.Bound id
    else view.Count id
view_in d = view.Count []

pub view_again : (v : View) → view_data (view_in (view_data v)) ≡ view_data v
view_again (view.Box id) = refl
view_again v = refl
