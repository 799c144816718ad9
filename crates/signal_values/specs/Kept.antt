-- What a computation leaves.
use Rattle.std.specs.Prelude.{◌≡◌, ◌≢◌, ◌⊎◌, ℕ, ◌<◌, ◌≤◌, Bool, true, false, List, ◌∷◌, [], ◌++◌, length, slice_get, Some, None, Contains, option_and_then}
use Rattle.std.specs.declared.cmp.Ordering.{Ordering}
use Rattle.std.specs.BTreeMap.{get, Updates}
use Rattle.links_core.specs.Lists.{list_at}
use Rattle.signal_rules.specs.Meaning.{Meaning}
use Rattle.signal_rules.specs.Values.{HasValue, Meets}
use Rattle.signal_values.specs.Edges.{Feeds}
use Rattle.signal_values.specs.declared.cells.Row.{Row}
use Rattle.signal_values.specs.declared.cells.Cells.{Cells}
use Rattle.signal_values.specs.Cells.{IsFresh, IsSound, Serves, IsPassed, atoms_of, row_of}

-- a stale row was computed, to another value
pub record IsComputed {K V : Type 0} (epoch : ℕ) (fresh now : List Bool) (i : ℕ) (row after : Row K V) : Type 0 where
  pub stale : IsFresh fresh i → ⊥
  pub ready : IsFresh now i
  pub key : after.key ≡ row.key
  pub differs : after.value ≡ row.value → ⊥
  pub changed : after.changed ≡ Some epoch

-- a row is as it was, and stays fresh, or was computed to another value
abbrev pub Leaves : {K V : Type 0} → ℕ → List Bool → List Bool → ℕ → Row K V → Row K V → Type 0
Leaves epoch fresh now i row after =
    ((after ≡ row) × (IsFresh fresh i → IsFresh now i)) ⊎ IsComputed epoch fresh now i row after

-- a row was made: by a read of an atom, or by a first run
pub record IsMade {K V : Type 0} (m : Meaning K V) (epoch : ℕ) (row : Row K V) : Type 0 where
  pub read : m.rank row.key ≡ 0 → row.changed ≡ None
  pub ran : 0 < m.rank row.key → row.changed ≡ Some epoch

-- each row is left so, and each further one was made
pub record IsKept {K V : Type 0} (m : Meaning K V) (epoch : ℕ) (rows : List (Row K V)) (fresh : List Bool) (after : List (Row K V)) (now : List Bool) : Type 0 where
  pub left : (i : ℕ) (row : Row K V) → slice_get rows i ≡ Some row → (other : Row K V) × (slice_get after i ≡ Some other) × Leaves epoch fresh now i row other
  pub made : (i : ℕ) (row : Row K V) → slice_get after i ≡ Some row → length rows ≤ i → IsMade m epoch row

-- what a computation leaves, also where memory was refused: the atoms as they were, and each row so
pub record IsLeft {K V : Type 0} (m : Meaning K V) (cmp : K → K → Ordering) (epoch : ℕ) (old new : Cells K V) : Type 0 where
  pub sound : IsSound m cmp (atoms_of m cmp old.rows.items) new
  pub kept : IsKept m epoch old.rows.items old.fresh.items new.rows.items new.fresh.items

-- a row has the key, and is fresh
pub record IsFreshAt {K V : Type 0} (cells : Cells K V) (key : K) (i : ℕ) : Type 0 where
  pub row : Row K V
  pub at : slice_get cells.rows.items i ≡ Some row
  pub is : row.key ≡ key
  pub ready : IsFresh cells.fresh.items i

-- the key has a fresh row
abbrev pub IsFreshKey : {K V : Type 0} → List (Row K V) → List Bool → K → Type 0
IsFreshKey {K} {V} rows fresh key = (i : ℕ) × (row : Row K V) × (slice_get rows i ≡ Some row) × (row.key ≡ key) × IsFresh fresh i

-- a row was added
pub record IsAdded {K V : Type 0} (cmp : K → K → Ordering) (old new : Cells K V) (row : Row K V) (fresh : Bool) (i : ℕ) : Type 0 where
  pub place : i ≡ length old.rows.items
  pub rows : new.rows.items ≡ old.rows.items ++ row ∷ []
  pub flags : new.fresh.items ≡ old.fresh.items ++ fresh ∷ []
  pub places : Updates cmp old.places new.places row.key (Some i)
  pub edges : (n : ℕ) → list_at new.edges.children n ≡ list_at old.edges.children n
  pub room : length new.rows.items ≤ length new.edges.children
  pub spare : new.edges.spare ≡ old.edges.spare

-- no row was added
pub record IsSame {K V : Type 0} (cmp : K → K → Ordering) (old new : Cells K V) : Type 0 where
  pub rows : new.rows.items ≡ old.rows.items
  pub flags : new.fresh.items ≡ old.fresh.items
  pub places : (key : K) → get cmp new.places key ≡ get cmp old.places key
  pub edges : (n : ℕ) → list_at new.edges.children n ≡ list_at old.edges.children n
  pub room : length old.edges.children ≤ length new.edges.children

-- edges to a child were linked
pub record IsConnected (old new : List (List ℕ)) (parents : List ℕ) (child : ℕ) : Type 0 where
  pub rows : length new ≡ length old
  pub keeps : (p c : ℕ) → Feeds old p c → Feeds new p c
  pub has : (p : ℕ) → Contains parents p → Feeds new p child
  pub only : (p c : ℕ) → Feeds new p c → Feeds old p c ⊎ ((c ≡ child) × Contains parents p)

-- a run came to a value, and read these parents
pub record HasRun {K V : Type 0} (m : Meaning K V) (atoms : K → V) (rows : List (Row K V)) (fresh : List Bool) (key : K) (v : V) (parents : List ℕ) : Type 0 where
  pub above : 0 < m.rank key
  pub value : HasValue m atoms key v
  pub served : (p : ℕ) → Contains parents p → Serves m atoms rows fresh p key
  pub whole : (atom : K) → Meets m atoms atom key → IsPassed m atoms rows (λ p. Contains parents p) atom

-- an equal value leaves a row as it was; another is its value from then on
abbrev pub IsRenewed : {K V : Type 0} → (V → V → Bool) → ℕ → V → Row K V → Row K V → Type 0
IsRenewed eq epoch v row after =
    ((eq row.value v ≡ true) × (after ≡ row)) ⊎ ((eq row.value v ≡ false) × (after ≡ record row { value = v; changed = Some epoch }))

-- the row of an atom that was read: it is the last, and counts as never set
pub record IsRead {K V : Type 0} (old new : Cells K V) (i : ℕ) : Type 0 where
  pub row : Row K V
  pub place : i ≡ length old.rows.items
  pub rows : new.rows.items ≡ old.rows.items ++ row ∷ []
  pub changed : row.changed ≡ None

-- the key has a row, whose changed epoch is that from before, and no other key's row is another
pub record HasListed {K V : Type 0} (cmp : K → K → Ordering) (old new : Cells K V) (key : K) (i : ℕ) : Type 0 where
  pub row : Row K V
  pub at : slice_get new.rows.items i ≡ Some row
  pub is : row.key ≡ key
  pub changed : option_and_then (λ (r : Row K V). r.changed) (row_of cmp old.rows.items key) ≡ row.changed
  pub rows : (j : ℕ) (r : Row K V) → slice_get old.rows.items j ≡ Some r → slice_get new.rows.items j ≡ Some r
  pub others : (other : K) → other ≢ key → row_of cmp new.rows.items other ≡ row_of cmp old.rows.items other
  pub flags : (j : ℕ) → IsFresh old.fresh.items j → IsFresh new.fresh.items j
