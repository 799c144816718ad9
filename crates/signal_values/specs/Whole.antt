-- Cells that are whole by the values of their own atoms.
use Rattle.std.specs.Prelude.{ℕ, List}
use Rattle.std.specs.declared.cmp.Ordering.{Ordering}
use Rattle.signal_rules.specs.Meaning.{Meaning}
use Rattle.signal_values.specs.declared.cells.Cells.{Cells}
use Rattle.signal_values.specs.Cells.{IsSound, atoms_of}
use Rattle.signal_values.specs.Kept.{HasRun}

-- the cells are sound by their own atoms
abbrev pub IsWhole : {K V : Type 0} → Meaning K V → (K → K → Ordering) → Cells K V → Type 0
IsWhole m cmp cells = IsSound m cmp (atoms_of m cmp cells.rows.items) cells

-- over the cells a run of the key came to a value, and read these parents
abbrev pub RunsTo : {K V : Type 0} → Meaning K V → (K → K → Ordering) → Cells K V → K → V → List ℕ → Type 0
RunsTo m cmp cells key v parents =
    HasRun m (atoms_of m cmp cells.rows.items) cells.rows.items cells.fresh.items key v parents
