-- Which lists stand for a query.
use Rattle.std.proofs.Common.{◌≡◌, ℕ, zero, suc, ◌<◌, ◌≤◌, ℤ, List, [], ◌∷◌, length, get_or, map, if◌then◌else◌, codes, sym, ap, subst, ◌∙◌, arith}
use Rattle.std.specs.Str.{bytes_eq}
use Rattle.rooms_val.specs.Data.{Data, whole, text, list, depth, item, items_of, list_of, items_depth}
use Rattle.rooms_val.specs.View.{data_of, items_view}
use Rattle.rooms_val.specs.declared.val.Val.{Val}
use Rattle.rooms_val.proofs.DataLemmas.{list_of-items_of}
use Rattle.shape_tree.specs.declared.query.Query.{Query}
use Rattle.shape_tree.specs.declared.query.Query.TheOpen.{Query-F}
use Rattle.shape_tree.specs.declared.query.Query.TheFolds.{map-Query, fold_out-Query}
use Rattle.shape_tree.specs.declared.query.Query.TheViews.{out-Query}
use Rattle.view_vals.specs.Queries.{named, data_with, query_data, IsNoQuery}

-- the names that the list of a query may begin with
pub data Name : Type 0 where
  eq : Name
  neq : Name
  gt : Name
  all : Name
  any : Name
  not : Name
  other : Name

abbrev pub name_of : List ℕ → Name
name_of name =
    if bytes_eq name (codes "eq") then eq
    else if bytes_eq name (codes "neq") then neq
    else if bytes_eq name (codes "gt") then gt
    else if bytes_eq name (codes "and") then all
    else if bytes_eq name (codes "or") then any
    else if bytes_eq name (codes "not") then not
    else other

-- what follows a name in the list of a query
abbrev pub Follows : Name → List Data → Type 0
Follows eq rest = (field : List ℕ) × (value : Data) × (rest ≡ text field ∷ value ∷ [])
Follows neq rest = (field : List ℕ) × (value : Data) × (rest ≡ text field ∷ value ∷ [])
Follows gt rest = (field : List ℕ) × (number : ℤ) × (rest ≡ text field ∷ whole number ∷ [])
Follows all rest = (queries : List Query) × (rest ≡ list (items_of (map query_data queries)) ∷ [])
Follows any rest = (queries : List Query) × (rest ≡ list (items_of (map query_data queries)) ∷ [])
Follows not rest = (query : Query) × (rest ≡ query_data query ∷ [])
Follows other rest = ⊥

abbrev name_in : Data → List ℕ
name_in (list (item (text name) rest)) = name
name_in d = []

abbrev rest_in : Data → List Data
rest_in (list (item name rest)) = list_of rest
rest_in d = []

-- two lists of the same value have the same name, and the same follows it
by_name : (a b : List ℕ) (r s : List Data) → named a r ≡ named b s → (r ≡ s → Follows (name_of b) r) → Follows (name_of a) r
by_name a b r s is follows =
    subst (λ n. Follows (name_of n) r) (sym (ap name_in is)) (follows (sym (list_of-items_of r) ∙ ap rest_in is ∙ list_of-items_of s))

-- of a list that is the value of this layer of a query
follows_in : (name : List ℕ) (rest : List Data) (layer : Query-F Query) → named name rest ≡ data_with (map-Query Query Data query_data layer) → Follows (name_of name) rest
follows_in name rest (Query-F.Eq field value) is = by_name name (codes "eq") rest (text field ∷ data_of value ∷ []) is (λ same. (field, data_of value, same))
follows_in name rest (Query-F.Neq field value) is = by_name name (codes "neq") rest (text field ∷ data_of value ∷ []) is (λ same. (field, data_of value, same))
follows_in name rest (Query-F.Gt field number) is = by_name name (codes "gt") rest (text field ∷ whole number ∷ []) is (λ same. (field, number, same))
follows_in name rest (Query-F.And queries) is = by_name name (codes "and") rest (list (items_of (map query_data queries.items)) ∷ []) is (λ same. (queries.items, same))
follows_in name rest (Query-F.Or queries) is = by_name name (codes "or") rest (list (items_of (map query_data queries.items)) ∷ []) is (λ same. (queries.items, same))
follows_in name rest (Query-F.Not query) is = by_name name (codes "not") rest (query_data query.value ∷ []) is (λ same. (query.value, same))

-- a list whose name is followed by something else is that of no query
pub no_query : (d : Data) (name : List ℕ) (rest : List Data) (kind : Name) → d ≡ named name rest → name_of name ≡ kind → (Follows kind rest → ⊥) → IsNoQuery d
no_query d name rest kind is kind_is never q same =
    never (subst (λ k. Follows k rest) kind_is (follows_in name rest (out-Query q) (sym is ∙ same ∙ fold_out-Query Data data_with q)))

-- a value that is no list that begins with a name is that of no query
no_layer : (d : Data) (layer : Query-F Query) → ((name : List ℕ) (rest : List Data) → d ≡ named name rest → ⊥) → d ≡ data_with (map-Query Query Data query_data layer) → ⊥
no_layer d (Query-F.Eq field value) never is = never (codes "eq") (text field ∷ data_of value ∷ []) is
no_layer d (Query-F.Neq field value) never is = never (codes "neq") (text field ∷ data_of value ∷ []) is
no_layer d (Query-F.Gt field number) never is = never (codes "gt") (text field ∷ whole number ∷ []) is
no_layer d (Query-F.And queries) never is = never (codes "and") (list (items_of (map query_data queries.items)) ∷ []) is
no_layer d (Query-F.Or queries) never is = never (codes "or") (list (items_of (map query_data queries.items)) ∷ []) is
no_layer d (Query-F.Not query) never is = never (codes "not") (query_data query.value ∷ []) is

pub no_list : (d : Data) → ((name : List ℕ) (rest : List Data) → d ≡ named name rest → ⊥) → IsNoQuery d
no_list d never q is = no_layer d (out-Query q) never (is ∙ fold_out-Query Data data_with q)

-- a list of values of which one stands for no query
pub no_item : (vs : List Val) (i : ℕ) (v : Val) → i < length vs → v ≡ get_or vs i v → IsNoQuery (data_of v) → (qs : List Query) → items_view vs ≡ map query_data qs → ⊥
no_item [] i v within here never qs is = absurd (omega arith)
no_item (w ∷ vs) i v within here never [] is = cc
no_item (w ∷ vs) zero v within here never (q ∷ qs) is = never q (ap data_of here ∙ (let same : data_of w ≡ query_data q = cc in same))
no_item (w ∷ vs) (suc i) v within here never (q ∷ qs) is = no_item vs i v (omega arith) here never qs (let same : items_view vs ≡ map query_data qs = cc in same)

pub depth_item : (vs : List Val) (i : ℕ) (v : Val) → i < length vs → v ≡ get_or vs i v → depth (data_of v) ≤ items_depth (items_of (items_view vs))
depth_item [] i v within here = absurd (omega arith)
depth_item (w ∷ vs) zero v within here = rw here (omega arith)
depth_item (w ∷ vs) (suc i) v within here = omega (arith, depth_item vs i v (omega arith) here)

abbrev first_items : List Data → List Data
first_items [] = []
first_items (list ds ∷ rest) = list_of ds
first_items (d ∷ rest) = []

-- two lists that stand alone in the same place are the same
pub same_list : (rest a b : List Data) → rest ≡ list (items_of a) ∷ [] → rest ≡ list (items_of b) ∷ [] → a ≡ b
same_list rest a b is_a is_b = sym (list_of-items_of a) ∙ ap first_items (sym is_a ∙ is_b) ∙ list_of-items_of b
