-- Values, as contracts see them.
use Rattle.std.specs.Prelude.{◌≡◌, ◌≢◌, ◌⊎◌, ℕ, ◌+◌, ◌-◌, ◌<◌, ◌^◌, Bool, true, false, if◌then◌else◌, nat_lt, List, slice_get, Option, Some, option_and_then}
use Rattle.std.specs.declared.cmp.Ordering.{Ordering}
use Rattle.signal_rules.specs.Meaning.{Meaning}
use Rattle.signal_rules.specs.Values.{value, Meets}
use Rattle.signal_values.specs.declared.cells.Row.{Row}
use Rattle.signal_values.specs.Cells.{IsFresh, row_of, atoms_of}
use Rattle.signal_values.specs.Kept.{IsKept, IsFreshKey}
use Rattle.signal_values.specs.Writes.{or_zero}

-- what contracts see of `Values`: their rules, their rows with the last values and changed epochs, which of them are
-- fresh, and their epoch
pub record Seen (R K V : Type 0) : Type 0 where
  pub rules : R
  pub rows : List (Row K V)
  pub fresh : List Bool
  pub epoch : ℕ

-- the last epoch
abbrev pub top : ℕ
top = 2 ^ 64 - 1

-- the value of a key over the atoms
abbrev pub value_in : {R K V : Type 0} → Meaning K V → (K → K → Ordering) → Seen R K V → K → V
value_in m cmp values key = value m (atoms_of m cmp values.rows) key

-- a key is fresh: at the last epoch none is
abbrev pub IsFreshIn : {R K V : Type 0} → Seen R K V → K → Type 0
IsFreshIn values key = IsFreshKey values.rows values.fresh key × (values.epoch < top)

-- a computation leaves rules, atoms, epoch, and each row as it was unless it was stale and came to another value;
-- fresh keys stay fresh
pub record IsGot {R K V : Type 0} (m : Meaning K V) (cmp : K → K → Ordering) (old new : Seen R K V) : Type 0 where
  pub rules : new.rules ≡ old.rules
  pub epoch : new.epoch ≡ old.epoch
  pub atoms : atoms_of m cmp new.rows ≡ atoms_of m cmp old.rows
  pub rows : IsKept m old.epoch old.rows old.fresh new.rows new.fresh
  pub fresh : (key : K) → IsFreshKey old.rows old.fresh key → IsFreshKey new.rows new.fresh key

-- the row has the key with its value, and is fresh
pub record IsValueAt {R K V : Type 0} (m : Meaning K V) (cmp : K → K → Ordering) (old new : Seen R K V) (key : K) (i : ℕ) : Type 0 where
  pub row : Row K V
  pub at : slice_get new.rows i ≡ Some row
  pub is : row.key ≡ key
  pub value : row.value ≡ value_in m cmp old key
  pub ready : IsFresh new.fresh i

-- the epoch after a change: it rises, but at its end
abbrev pub risen : ℕ → ℕ
risen epoch = if nat_lt epoch top then epoch + 1 else epoch

-- the changed epoch of a key, none where the key was neither set nor computed
abbrev pub changed_in : {R K V : Type 0} → (K → K → Ordering) → Seen R K V → K → Option ℕ
changed_in cmp values key = option_and_then (λ row. row.changed) (row_of cmp values.rows key)

-- the atom has a row
abbrev pub IsListed : {R K V : Type 0} → Seen R K V → K → Type 0
IsListed {R} {K} {V} values key = (i : ℕ) × (row : Row K V) × (slice_get values.rows i ≡ Some row) × (row.key ≡ key)

-- the value isn't the one that the atom had before. The given epoch is the epoch afterwards, and the atom's changed epoch
abbrev pub HasChanged : {R K V : Type 0} → Meaning K V → (K → K → Ordering) → Seen R K V → Seen R K V → K → V → ℕ → Type 0
HasChanged m cmp old new key v epoch =
    (v ≢ atoms_of m cmp old.rows key) × (new.epoch ≡ epoch) × (changed_in cmp new key ≡ Some epoch)

-- each fresh key stays fresh
abbrev pub StaysFresh : {R K V : Type 0} → Seen R K V → Seen R K V → Type 0
StaysFresh {R} {K} {V} old new = (other : K) → IsFreshKey old.rows old.fresh other → IsFreshKey new.rows new.fresh other

-- the value is the one that the atom had before. The epoch is as it was. The atom's changed epoch is as it was, or 0 where
-- there was none. Each fresh key stays fresh
abbrev pub HasStayed : {R K V : Type 0} → Meaning K V → (K → K → Ordering) → Seen R K V → Seen R K V → K → V → Type 0
HasStayed m cmp old new key v =
    (v ≡ atoms_of m cmp old.rows key) × (new.epoch ≡ old.epoch)
    × (changed_in cmp new key ≡ or_zero (changed_in cmp old key)) × StaysFresh old new

-- an atom was set at an epoch: it has the value, and the other atoms, rows and changed epochs are as they were. Exactly
-- where the value differs the atom changed at that epoch. A fresh key whose run doesn't meet the atom stays fresh
pub record IsSetAt {R K V : Type 0} (m : Meaning K V) (cmp : K → K → Ordering) (old new : Seen R K V) (key : K) (v : V) (epoch : ℕ) (changes : Bool) : Type 0 where
  pub rules : new.rules ≡ old.rules
  pub here : atoms_of m cmp new.rows key ≡ v
  pub others : (other : K) → other ≢ key → atoms_of m cmp new.rows other ≡ atoms_of m cmp old.rows other
  pub differs : changes ≡ true → HasChanged m cmp old new key v epoch
  pub same : changes ≡ false → HasStayed m cmp old new key v
  pub rows : (i : ℕ) (row : Row K V) → slice_get old.rows i ≡ Some row → row.key ≢ key → slice_get new.rows i ≡ Some row
  pub changed : (other : K) → other ≢ key → changed_in cmp new other ≡ changed_in cmp old other
  pub apart : (other : K) → IsFreshKey old.rows old.fresh other → (Meets m (atoms_of m cmp old.rows) key other → ⊥) → IsFreshKey new.rows new.fresh other

-- an atom was set: the epoch rises where its value differs
abbrev pub IsSet : {R K V : Type 0} → Meaning K V → (K → K → Ordering) → Seen R K V → Seen R K V → K → V → Bool → Type 0
IsSet m cmp old new key v changes = IsSetAt m cmp old new key v (risen old.epoch) changes

-- a value was put back at an atom, at an epoch: an equal one changes nothing, and another is set
abbrev pub IsPutBack : {R K V : Type 0} → Meaning K V → (K → K → Ordering) → Seen R K V → Seen R K V → K → V → ℕ → Type 0
IsPutBack m cmp old new key v epoch =
    ((v ≡ atoms_of m cmp old.rows key) × (new ≡ old)) ⊎ IsSetAt m cmp old new key v epoch true

-- the epoch is this one, or the one after the next change
abbrev pub IsNowOrNext : ℕ → ℕ → Type 0
IsNowOrNext now epoch = (epoch ≡ now) ⊎ (epoch ≡ risen now)
