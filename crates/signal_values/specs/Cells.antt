-- Rows, and what holds of those that are fresh.
use Rattle.std.specs.Prelude.{◌≡◌, ℕ, ◌<◌, ◌≤◌, Bool, true, List, length, slice_get, Option, Some, option_map, unwrap_or}
use Rattle.std.specs.declared.cmp.Ordering.{Ordering}
use Rattle.std.specs.Ordering.{is_eq}
use Rattle.std.specs.List.{find}
use Rattle.std.specs.BTreeMap.{BTreeMap, get}
use Rattle.signal_rules.specs.Meaning.{Meaning}
use Rattle.signal_rules.specs.Values.{by_rank, HasValue, Meets}
use Rattle.signal_values.specs.Edges.{Feeds}
use Rattle.signal_values.specs.declared.cells.Row.{Row}
use Rattle.signal_values.specs.declared.cells.Cells.{Cells}

-- the row is fresh
abbrev pub IsFresh : List Bool → ℕ → Type 0
IsFresh fresh row = slice_get fresh row ≡ Some true

-- the row of a key
abbrev pub row_of : {K V : Type 0} → (K → K → Ordering) → List (Row K V) → K → Option (Row K V)
row_of cmp rows key = find (λ row. is_eq (cmp row.key key)) rows

-- the values of the atoms: that of the row, or else `blank`
abbrev pub atoms_of : {K V : Type 0} → Meaning K V → (K → K → Ordering) → List (Row K V) → K → V
atoms_of m cmp rows key =
    by_rank (m.rank key) (unwrap_or (option_map (λ row. row.value) (row_of cmp rows key)) (m.blank key)) (m.blank key)

-- the rows have the values of the atoms
pub record HaveAtoms {K V : Type 0} (m : Meaning K V) (atoms : K → V) (rows : List (Row K V)) : Type 0 where
  pub there : (i : ℕ) (row : Row K V) → slice_get rows i ≡ Some row → m.rank row.key ≡ 0 → row.value ≡ atoms row.key
  pub absent : (key : K) → m.rank key ≡ 0 → ((i : ℕ) (row : Row K V) → slice_get rows i ≡ Some row → row.key ≡ key → ⊥) → atoms key ≡ m.blank key
  pub above : (key : K) → 0 < m.rank key → atoms key ≡ m.blank key

-- a parent may be read for a key: it is fresh and of lower rank, and the key's run meets what that of the parent meets
pub record Serves {K V : Type 0} (m : Meaning K V) (atoms : K → V) (rows : List (Row K V)) (fresh : List Bool) (parent : ℕ) (key : K) : Type 0 where
  pub row : Row K V
  pub at : slice_get rows parent ≡ Some row
  pub ready : IsFresh fresh parent
  pub lower : m.rank row.key < m.rank key
  pub passes : (atom : K) → Meets m atoms atom row.key → Meets m atoms atom key

-- some parent's run meets the atom
pub record IsPassed {K V : Type 0} (m : Meaning K V) (atoms : K → V) (rows : List (Row K V)) (IsParent : ℕ → Type 0) (atom : K) : Type 0 where
  pub parent : ℕ
  pub feeds : IsParent parent
  pub row : Row K V
  pub at : slice_get rows parent ≡ Some row
  pub meets : Meets m atoms atom row.key

-- a row has the value of its key, may read its parents, and meets no atom but through them
pub record IsCurrent {K V : Type 0} (m : Meaning K V) (atoms : K → V) (rows : List (Row K V)) (fresh : List Bool) (IsParent : ℕ → Type 0) (row : Row K V) : Type 0 where
  pub value : HasValue m atoms row.key row.value
  pub served : (parent : ℕ) → IsParent parent → Serves m atoms rows fresh parent row.key
  pub whole : 0 < m.rank row.key → (atom : K) → Meets m atoms atom row.key → IsPassed m atoms rows IsParent atom

-- no key has two rows, atoms are fresh, edges lead to fresh rows, and those are current
pub record IsGraph {K V : Type 0} (m : Meaning K V) (atoms : K → V) (rows : List (Row K V)) (fresh : List Bool) (children : List (List ℕ)) : Type 0 where
  pub atoms_are : HaveAtoms m atoms rows
  pub columns : length fresh ≡ length rows
  pub distinct : (i j : ℕ) (row other : Row K V) → slice_get rows i ≡ Some row → slice_get rows j ≡ Some other → row.key ≡ other.key → i ≡ j
  pub atoms_fresh : (i : ℕ) (row : Row K V) → slice_get rows i ≡ Some row → m.rank row.key ≡ 0 → IsFresh fresh i
  pub alive : (parent child : ℕ) → Feeds children parent child → IsFresh fresh child
  pub current : (i : ℕ) (row : Row K V) → slice_get rows i ≡ Some row → IsFresh fresh i → IsCurrent m atoms rows fresh (λ parent. Feeds children parent i) row

-- each key is found at its row
pub record IsIndex {K V : Type 0} (cmp : K → K → Ordering) (places : BTreeMap K ℕ) (rows : List (Row K V)) : Type 0 where
  pub found : (key : K) (i : ℕ) → get cmp places key ≡ Some i → (row : Row K V) × (slice_get rows i ≡ Some row) × (row.key ≡ key)
  pub listed : (i : ℕ) (row : Row K V) → slice_get rows i ≡ Some row → get cmp places row.key ≡ Some i

-- the whole of some cells
pub record IsSound {K V : Type 0} (m : Meaning K V) (cmp : K → K → Ordering) (atoms : K → V) (cells : Cells K V) : Type 0 where
  pub graph : IsGraph m atoms cells.rows.items cells.fresh.items cells.edges.children
  pub index : IsIndex cmp cells.places cells.rows.items
  pub room : length cells.rows.items ≤ length cells.edges.children
