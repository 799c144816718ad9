-- Lists of node numbers, as contracts see them.
use Rattle.std.specs.Prelude.{◌≡◌, ℕ, ◌<◌, ◌==◌, not, List, [], ◌∷◌, ◌++◌, Option, Some, None, slice_index_or, filter, Contains}

-- what contracts see of a `Links`: its lists by number, how many nodes were made, how many more need no memory
pub record Lists : Type 0 where
  pub lists : List (List ℕ)
  pub count : ℕ
  pub spare : ℕ

-- the list of a number, empty where there is none
abbrev pub list_at : List (List ℕ) → ℕ → List ℕ
list_at lists number = slice_index_or lists number []

-- some list has the node
abbrev pub IsLinked : List (List ℕ) → ℕ → Type 0
IsLinked lists node = (number : ℕ) × Contains (list_at lists number) node

-- no node stands twice in a list
abbrev pub IsApart : List ℕ → Type 0
IsApart [] = Unit {0}
IsApart (x ∷ xs) = (Contains xs x → ⊥) × IsApart xs

-- each node of a list was made, and stands once in one list
pub record AreSound (lists : List (List ℕ)) (count : ℕ) : Type 0 where
  pub made : (number node : ℕ) → Contains (list_at lists number) node → node < count
  pub once : (number : ℕ) → IsApart (list_at lists number)
  pub in_one : (number other node : ℕ) → Contains (list_at lists number) node → Contains (list_at lists other) node → number ≡ other

-- the list without a node
abbrev pub without : ℕ → List ℕ → List ℕ
without node = filter (λ x. not (x == node))

-- the first of the nodes, or else what comes after them
abbrev pub first_or : List ℕ → Option ℕ → Option ℕ
first_or [] after = after
first_or (x ∷ xs) after = Some x

-- the last of the nodes, or else what comes before them
abbrev pub last_or : List ℕ → Option ℕ → Option ℕ
last_or [] before = before
last_or (x ∷ xs) before = last_or xs (Some x)

abbrev pub first_of : List ℕ → Option ℕ
first_of xs = first_or xs None

abbrev pub last_of : List ℕ → Option ℕ
last_of xs = last_or xs None

-- the node after another in its list, and none where no list has that one
pub record IsNext (lists : List (List ℕ)) (node : ℕ) (answer : Option ℕ) : Type 0 where
  pub linked : (number : ℕ) (before after : List ℕ) → list_at lists number ≡ before ++ node ∷ after → answer ≡ first_of after
  pub unlinked : (IsLinked lists node → ⊥) → answer ≡ None

-- the node before another in its list, and none where no list has that one
pub record IsPrev (lists : List (List ℕ)) (node : ℕ) (answer : Option ℕ) : Type 0 where
  pub linked : (number : ℕ) (before after : List ℕ) → list_at lists number ≡ before ++ node ∷ after → answer ≡ last_of before
  pub unlinked : (IsLinked lists node → ⊥) → answer ≡ None
