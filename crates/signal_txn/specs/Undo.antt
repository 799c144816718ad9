-- What open transactions wrote can be put back.
use Rattle.std.specs.Prelude.{◌≡◌, ℕ, true, is_some, List, [], ◌∷◌, Some, unwrap_or, slice_get}
use Rattle.std.specs.declared.cmp.Ordering.{Ordering}
use Rattle.std.specs.Map.{lookup}
use Rattle.std.specs.BTreeMap.{is_at}
use Rattle.signal_rules.specs.Meaning.{Meaning}
use Rattle.signal_rules.specs.Values.{Meets}
use Rattle.signal_values.specs.Cells.{atoms_of}
use Rattle.signal_values.specs.Kept.{IsFreshKey}
use Rattle.signal_values.specs.Seen.{Seen, IsListed}
use Rattle.signal_values.specs.declared.cells.Row.{Row}
use Rattle.signal_txn.specs.Level.{Level}
use Rattle.signal_txn.specs.Seen.{HasWritten, ChangesOnce, StaysUnlessChanged}

-- each of these transactions knows the value before of each key that one wrote
abbrev pub AreKnown : {K V : Type 0} → (K → K → Ordering) → Level K V → List (Level K V) → Type 0
AreKnown cmp level [] = Unit {0}
AreKnown {K} cmp level (outer ∷ around) =
    ((key : K) → HasWritten cmp level key → HasWritten cmp outer key) × AreKnown cmp level around

-- what a transaction wrote are atoms that have rows, and those around it know their values before
pub record IsUndoable {R K V : Type 0} (m : Meaning K V) (cmp : K → K → Ordering) (values : Seen R K V) (level : Level K V) (around : List (Level K V)) : Type 0 where
  pub atoms : (key : K) → HasWritten cmp level key → m.rank key ≡ 0
  pub listed : (key : K) → HasWritten cmp level key → IsListed values key
  pub known : AreKnown cmp level around

-- so of each transaction, the newest first
abbrev pub AreUndoable : {R K V : Type 0} → Meaning K V → (K → K → Ordering) → Seen R K V → List (Level K V) → Type 0
AreUndoable m cmp values [] = Unit {0}
AreUndoable m cmp values (level ∷ around) = IsUndoable m cmp values level around × AreUndoable m cmp values around

-- the key has a value among these
abbrev pub HasEntry : {K V : Type 0} → (K → K → Ordering) → List (K × V) → K → Type 0
HasEntry cmp entries key = is_some (lookup (is_at (cmp key)) entries) ≡ true

-- the atoms with these values put over them
abbrev pub put_over : {K V : Type 0} → (K → K → Ordering) → List (K × V) → (K → V) → K → V
put_over cmp entries atoms key = unwrap_or (lookup (is_at (cmp key)) entries) (atoms key)

-- these values were put back, all at one epoch: a fresh key whose run meets none of the atoms stays fresh, and other rows
-- are as they were
pub record ArePutBack {R K V : Type 0} (m : Meaning K V) (cmp : K → K → Ordering) (old new : Seen R K V) (entries : List (K × V)) : Type 0 where
  pub rules : new.rules ≡ old.rules
  pub atoms : atoms_of m cmp new.rows ≡ put_over cmp entries (atoms_of m cmp old.rows)
  pub epoch : StaysUnlessChanged m cmp old new
  pub changed : (key : K) → ChangesOnce m cmp old new key
  pub listed : (key : K) → IsListed old key → IsListed new key
  pub rows : (i : ℕ) (row : Row K V) → slice_get old.rows i ≡ Some row → (HasEntry cmp entries row.key → ⊥) → slice_get new.rows i ≡ Some row
  pub apart : (key : K) → IsFreshKey old.rows old.fresh key → ((atom : K) → HasEntry cmp entries atom → Meets m (atoms_of m cmp old.rows) atom key → ⊥) → IsFreshKey new.rows new.fresh key
