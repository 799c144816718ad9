-- What several computations leave, one after the other.
use Rattle.std.specs.Prelude.{◌≡◌, ℕ, ◌<◌, ◌≤◌, length, slice_get, Some}
use Rattle.std.specs.declared.cmp.Ordering.{Ordering}
use Rattle.signal_rules.specs.Meaning.{Meaning}
use Rattle.signal_values.specs.declared.cells.Row.{Row}
use Rattle.signal_values.specs.Cells.{atoms_of}
use Rattle.signal_values.specs.Kept.{Leaves, IsFreshKey}
use Rattle.signal_values.specs.Seen.{Seen, changed_in}

-- rules, atoms and the epoch are as they were, each row is unless it was stale and came to another value, and an atom
-- counts as set only if it did; fresh keys stay fresh
pub record AreGot {R K V : Type 0} (m : Meaning K V) (cmp : K → K → Ordering) (old new : Seen R K V) : Type 0 where
  pub rules : new.rules ≡ old.rules
  pub epoch : new.epoch ≡ old.epoch
  pub atoms : atoms_of m cmp new.rows ≡ atoms_of m cmp old.rows
  pub rows : (i : ℕ) (row : Row K V) → slice_get old.rows i ≡ Some row → (other : Row K V) × (slice_get new.rows i ≡ Some other) × Leaves old.epoch old.fresh new.fresh i row other
  pub made : (i : ℕ) (row : Row K V) → slice_get new.rows i ≡ Some row → length old.rows ≤ i → 0 < m.rank row.key → row.changed ≡ Some old.epoch
  pub changed : (key : K) → m.rank key ≡ 0 → changed_in cmp new key ≡ changed_in cmp old key
  pub fresh : (key : K) → IsFreshKey old.rows old.fresh key → IsFreshKey new.rows new.fresh key
