-- What a write of an atom leaves.
use Rattle.std.specs.Prelude.{◌≡◌, ◌≢◌, ℕ, Bool, true, false, slice_get, slice_set, Option, Some, None}
use Rattle.std.specs.declared.cmp.Ordering.{Ordering}
use Rattle.signal_rules.specs.Meaning.{Meaning}
use Rattle.signal_rules.specs.Values.{Meets}
use Rattle.signal_values.specs.declared.cells.Row.{Row}
use Rattle.signal_values.specs.declared.cells.Cells.{Cells}
use Rattle.signal_values.specs.Cells.{IsFresh, IsSound, atoms_of}

-- the epoch of a change that there is, or else 0
abbrev pub or_zero : Option ℕ → Option ℕ
or_zero None = Some 0
or_zero (Some epoch) = Some epoch

-- the row of an atom that was written: it changed at that epoch, or, where the value is equal, it only counts as set
abbrev pub written_row : {K V : Type 0} → Row K V → V → Bool → ℕ → Row K V
written_row row v true epoch = record row { value = v; changed = Some epoch }
written_row row v false epoch = record row { changed = or_zero row.changed }

-- an atom was written
pub record IsWritten {K V : Type 0} (m : Meaning K V) (cmp : K → K → Ordering) (old new : Cells K V) (i : ℕ) (row : Row K V) (v : V) (epoch : ℕ) (changes : Bool) : Type 0 where
  pub sound : IsSound m cmp (atoms_of m cmp new.rows.items) new
  pub rows : new.rows.items ≡ slice_set old.rows.items i (written_row row v changes epoch)
  pub same : changes ≡ false → (v ≡ row.value) × (new.fresh.items ≡ old.fresh.items)
  pub differs : changes ≡ true → v ≢ row.value
  pub fewer : (j : ℕ) → IsFresh new.fresh.items j → IsFresh old.fresh.items j
  pub apart : (j : ℕ) (other : Row K V) → slice_get old.rows.items j ≡ Some other → IsFresh old.fresh.items j → (Meets m (atoms_of m cmp old.rows.items) row.key other.key → ⊥) → IsFresh new.fresh.items j
