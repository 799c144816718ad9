-- The one value by which each query is written.
use Rattle.std.specs.Prelude.{◌≡◌, ℕ, List, [], ◌∷◌, codes}
use Rattle.rooms_val.specs.Data.{Data, whole, text, list, items_of}
use Rattle.rooms_val.specs.View.{data_of}
use Rattle.shape_tree.specs.declared.query.Query.{Query}
use Rattle.shape_tree.specs.declared.query.Query.TheOpen.{Query-F}
use Rattle.shape_tree.specs.declared.query.Query.TheFolds.{fold-Query}

-- the list of a name and what follows it
abbrev pub named : List ℕ → List Data → Data
named name rest = list (items_of (text name ∷ rest))

-- the value of a query: `["eq",FIELD,VALUE]`, `["neq",FIELD,VALUE]`, `["gt",FIELD,NUMBER]`, `["and",[..]]`, `["or",[..]]` or
-- `["not",QUERY]`. The values of the queries in it stand in their place.
abbrev pub data_with : Query-F Data → Data
data_with (Query-F.Eq field value) = named (codes "eq") (text field ∷ data_of value ∷ [])
data_with (Query-F.Neq field value) = named (codes "neq") (text field ∷ data_of value ∷ [])
data_with (Query-F.Gt field number) = named (codes "gt") (text field ∷ whole number ∷ [])
data_with (Query-F.And queries) = named (codes "and") (list (items_of queries.items) ∷ [])
data_with (Query-F.Or queries) = named (codes "or") (list (items_of queries.items) ∷ [])
data_with (Query-F.Not query) = named (codes "not") (query.value ∷ [])

abbrev pub query_data : Query → Data
query_data = fold-Query Data data_with

-- the value is that of no query
abbrev pub IsNoQuery : Data → Type 0
IsNoQuery d = (q : Query) → ¬ (d ≡ query_data q)
