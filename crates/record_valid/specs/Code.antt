-- How the logic stores a check: as a value from which the check can be read back.
use Rattle.std.specs.Prelude.{◌≡◌, ℕ, pos, List, [], ◌∷◌, get_or, refl}
use Rattle.std.specs.Coded.{Coded, coded×, coded_list, coded_ℕ, code_by}
use mathlib.Core.Path.{ap}
use Rattle.rooms_val.specs.Data as val
use Rattle.rooms_val.specs.Data.{Data, Items, no_items, item, Members, no_members, member}
use Rattle.rooms_val.specs.Code.{coded_data}
use Rattle.record_valid.specs.Tree.{CheckTree, whole, text, one_of, boolean, key, id_of, nullable, list_of, dict, object, by_type, any, Rows, no_rows, row, Table}

abbrev texts_code : List (List ℕ) → Items
texts_code [] = no_items
texts_code (t ∷ ts) = item (val.text t) (texts_code ts)

-- a map whose only key is a number that tells the kind of check
abbrev tagged : ℕ → Data → Data
tagged n d = val.map (member (n ∷ []) d no_members)

abbrev mutual
  tree_code : CheckTree → Data
  tree_code (whole least most) = tagged 0 (val.list (item (val.whole least) (item (val.whole most) no_items)))
  tree_code (text most) = tagged 1 (val.whole (pos most))
  tree_code (one_of ts) = tagged 2 (val.list (texts_code ts))
  tree_code boolean = tagged 3 val.null
  tree_code key = tagged 4 val.null
  tree_code (id_of ts) = tagged 5 (val.list (texts_code ts))
  tree_code (nullable c) = tagged 6 (tree_code c)
  tree_code (list_of c) = tagged 7 (tree_code c)
  tree_code dict = tagged 8 val.null
  tree_code (object rs) = tagged 9 (val.map (rows_code rs))
  tree_code (by_type rs) = tagged 10 (val.map (rows_code rs))
  tree_code any = tagged 11 val.null

  rows_code : Rows → Members
  rows_code no_rows = no_members
  rows_code (row k c rs) = member k (tree_code c) (rows_code rs)

abbrev texts_in : Items → List (List ℕ)
texts_in (item (val.text t) ds) = t ∷ texts_in ds
texts_in _ = []

abbrev plain_in : Data → CheckTree
plain_in (val.whole (pos most)) = text most
plain_in (val.list (item (val.whole least) (item (val.whole most) no_items))) = whole least most
plain_in _ = any

abbrev names_in : Data → List (List ℕ)
names_in (val.list ds) = texts_in ds
names_in _ = []

abbrev mutual
  tree_in : Data → CheckTree
  tree_in (val.map ms) = tagged_in ms
  tree_in _ = any

  -- by the kind under which a value stands
  tagged_in : Members → CheckTree
  tagged_in (member k d ms) =
      get_or (plain_in d ∷ plain_in d ∷ one_of (names_in d) ∷ boolean ∷ key ∷ id_of (names_in d) ∷ nullable (tree_in d) ∷ list_of (tree_in d) ∷ dict ∷ object (table_in d) ∷ by_type (table_in d) ∷ any ∷ []) (get_or k 0 11) any
  tagged_in no_members = any

  table_in : Data → Rows
  table_in (val.map ms) = rows_in ms
  table_in _ = no_rows

  rows_in : Members → Rows
  rows_in no_members = no_rows
  rows_in (member k d ms) = row k (tree_in d) (rows_in ms)

pub texts_in-texts_code : (ts : List (List ℕ)) → texts_in (texts_code ts) ≡ ts
texts_in-texts_code [] = refl
texts_in-texts_code (t ∷ ts) = ap (λ rest. t ∷ rest) (texts_in-texts_code ts)

abbrev mutual
  tree_in-tree_code : (c : CheckTree) → tree_in (tree_code c) ≡ c
  tree_in-tree_code (whole least most) = refl
  tree_in-tree_code (text most) = refl
  tree_in-tree_code (one_of ts) = ap one_of (texts_in-texts_code ts)
  tree_in-tree_code boolean = refl
  tree_in-tree_code key = refl
  tree_in-tree_code (id_of ts) = ap id_of (texts_in-texts_code ts)
  tree_in-tree_code (nullable c) = ap nullable (tree_in-tree_code c)
  tree_in-tree_code (list_of c) = ap list_of (tree_in-tree_code c)
  tree_in-tree_code dict = refl
  tree_in-tree_code (object rs) = ap object (rows_in-rows_code rs)
  tree_in-tree_code (by_type rs) = ap by_type (rows_in-rows_code rs)
  tree_in-tree_code any = refl

  rows_in-rows_code : (rs : Rows) → rows_in (rows_code rs) ≡ rs
  rows_in-rows_code no_rows = refl
  rows_in-rows_code (row k c rs) = λ i. row k (tree_in-tree_code c i) (rows_in-rows_code rs i)

abbrev pub coded_tree : Coded CheckTree
coded_tree = code_by Data coded_data tree_code tree_in tree_in-tree_code

abbrev pub coded_table : Coded Table
coded_table = coded_list (coded× (coded_list coded_ℕ) coded_tree)

abbrev pub coded_texts : Coded (List (List ℕ))
coded_texts = coded_list (coded_list coded_ℕ)
