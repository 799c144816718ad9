-- What a check is, as a tree that shares nothing with how the code keeps it.
use Rattle.std.specs.Prelude.{ℕ, suc, max, ℤ, List, [], ◌∷◌}

-- the kinds of checks, as `Check` names them, and texts with their checks
mutual
  pub data CheckTree : Type 0 where
    whole : ℤ → ℤ → CheckTree
    text : ℕ → CheckTree
    one_of : List (List ℕ) → CheckTree
    boolean : CheckTree
    key : CheckTree
    id_of : List (List ℕ) → CheckTree
    nullable : CheckTree → CheckTree
    list_of : CheckTree → CheckTree
    dict : CheckTree
    object : Rows → CheckTree
    by_type : Rows → CheckTree
    any : CheckTree

  pub data Rows : Type 0 where
    no_rows : Rows
    row : List ℕ → CheckTree → Rows → Rows

-- texts with their checks, in order
abbrev pub Table : Type 0
Table = List (List ℕ × CheckTree)

-- the rows of a table
abbrev pub rows_of : Table → Rows
rows_of [] = no_rows
rows_of (e ∷ es) = row e.0 e.1 (rows_of es)

-- the table of some rows
abbrev pub table_of : Rows → Table
table_of no_rows = []
table_of (row k c rs) = (k, c) ∷ table_of rs

-- how deep checks stand in one another: 0 for one that has none inside
abbrev mutual
  pub depth : CheckTree → ℕ
  depth (nullable c) = suc (depth c)
  depth (list_of c) = suc (depth c)
  depth (object rs) = suc (rows_depth rs)
  depth (by_type rs) = suc (rows_depth rs)
  depth _ = 0

  pub rows_depth : Rows → ℕ
  rows_depth no_rows = 0
  rows_depth (row k c rs) = max (depth c) (rows_depth rs)
