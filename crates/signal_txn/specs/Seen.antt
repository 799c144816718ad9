-- Transactions, as contracts see them.
use Rattle.std.specs.Prelude.{◌≡◌, ◌≢◌, ◌⊎◌, ℕ, ◌<◌, ◌≤◌, Bool, true, false, if◌then◌else◌, Some, is_some, List, ◌∷◌}
use Rattle.std.specs.Prelude.{map, drop, slice_get}
use Rattle.std.specs.declared.cmp.Ordering.{Ordering}
use Rattle.signal_rules.specs.Meaning.{Meaning}
use Rattle.signal_rules.specs.Values.{Meets}
use Rattle.signal_values.specs.Cells.{atoms_of}
use Rattle.signal_values.specs.Kept.{IsFreshKey}
use Rattle.signal_values.specs.Seen.{IsGot, IsSet, changed_in, risen, top}
use Rattle.signal_values.specs.Seen as values
use Rattle.signal_values.specs.declared.cells.Row.{Row}
use Rattle.signal_txn.specs.declared.write.Write.{Write}
use Rattle.signal_core.specs.Seen as core
use Rattle.signal_txn.specs.Level.{Level, value_before, began_at, noted}
use Rattle.signal_txn.specs.Journal.{Journal, joined, committed}
use Rattle.signal_txn.specs.Turns.{AreInTurn}
use Rattle.signal_txn.specs.Histories.{History, Keeps, first_joined, first_merged}
use Rattle.signal_txn.specs.Passing.{PassesOn}

-- what contracts see of a `Txn`: its graph, and what its transactions keep
pub record Seen (R K V : Type 0) : Type 0 where
  pub graph : core.Seen R K V
  pub journal : Journal K V

-- the atoms
abbrev pub atoms_in : {R K V : Type 0} → Meaning K V → (K → K → Ordering) → Seen R K V → K → V
atoms_in m cmp txn = atoms_of m cmp txn.graph.values.rows

-- the atoms at which the open transactions began, the newest first
abbrev pub begun : {R K V : Type 0} → Meaning K V → (K → K → Ordering) → Seen R K V → List (K → V)
begun m cmp txn = map (λ level. began_at cmp level (atoms_in m cmp txn)) txn.journal.levels

-- a key was written since a transaction began
abbrev pub HasWritten : {K V : Type 0} → (K → K → Ordering) → Level K V → K → Type 0
HasWritten cmp level key = is_some (value_before cmp level key) ≡ true

-- the writes that are kept stand in their order
abbrev pub AreInOrder : {R K V : Type 0} → Seen R K V → Type 0
AreInOrder txn = AreInTurn txn.journal.levels txn.journal.ring txn.graph.values.epoch

-- where the last of all writes are kept, the last of what this function makes of them are kept afterwards, as long as
-- the epoch rises
abbrev pub KeepsOn : {R K V : Type 0}
    → (History K V → History K V) → Seen R K V → Seen R K V → Type 0
KeepsOn {R} {K} {V} after old new =
    new.graph.values.epoch < top
    → (history : History K V) → Keeps history old.journal old.graph.values.epoch
    → Keeps (after history) new.journal new.graph.values.epoch

-- a key was computed: atoms and transactions are as they were
pub record IsGotIn {R K V : Type 0} (m : Meaning K V) (cmp : K → K → Ordering)
    (old new : Seen R K V) : Type 0 where
  pub got : IsGot m cmp old.graph.values new.graph.values
  pub watches : new.graph.watches ≡ old.graph.watches
  pub journal : new.journal ≡ old.journal
  pub begun : begun m cmp new ≡ begun m cmp old

-- what open transactions keep once each of them knows the value of a key
abbrev pub levels_noted : {R K V : Type 0}
    → Meaning K V → (K → K → Ordering) → K → Seen R K V → List (Level K V)
levels_noted m cmp key txn = map (noted cmp key (atoms_in m cmp txn key)) txn.journal.levels

-- the write of an atom, after which this is the epoch
abbrev pub write_at : {K V : Type 0} → K → V → ℕ → Write K V
write_at key v epoch = record { key = key; value = v; epoch = epoch }

-- an atom was set: each open transaction knows the value before, and began where it did, and the write joins exactly
-- where it changed the atom
pub record IsSetIn {R K V : Type 0} (m : Meaning K V) (cmp : K → K → Ordering)
    (old new : Seen R K V) (key : K) (v : V) (changes : Bool) : Type 0 where
  pub set : IsSet m cmp old.graph.values new.graph.values key v changes
  pub watches : new.graph.watches ≡ old.graph.watches
  pub joins : changes ≡ true
      → new.journal ≡ joined (write_at key v new.graph.values.epoch) (levels_noted m cmp key old) old.journal.ring
  pub stays : changes ≡ false
      → new.journal ≡ record { levels = levels_noted m cmp key old; ring = old.journal.ring }
  pub begun : begun m cmp new ≡ begun m cmp old
  pub writes : KeepsOn
      (λ history. if changes then first_joined (write_at key v new.graph.values.epoch) history else history) old new
  pub diffs : new.graph.values.epoch < top → AreInOrder old → (since : ℕ) → since ≤ old.graph.values.epoch
      → PassesOn (λ lists. if changes then first_joined (key, v) lists else lists) old.journal new.journal since

-- the newest transaction was committed: those around it began where they did, and its writes follow those of the one
-- around it, or else the committed ones
pub record IsCommitted {R K V : Type 0} (m : Meaning K V) (cmp : K → K → Ordering)
    (old new : Seen R K V) : Type 0 where
  pub graph : new.graph ≡ old.graph
  pub journal : new.journal ≡ committed old.journal.levels old.journal.ring
  pub begun : begun m cmp new ≡ drop 1 (begun m cmp old)
  pub writes : KeepsOn first_merged old new
  pub diffs : AreInOrder old → (since : ℕ) → PassesOn first_merged old.journal new.journal since

-- where an atom differs it changed at the epoch after, which is the next one, and else its changed epoch is as it was
pub record ChangesOnce {R K V : Type 0} (m : Meaning K V) (cmp : K → K → Ordering)
    (old new : values.Seen R K V) (key : K) : Type 0 where
  pub differs : atoms_of m cmp new.rows key ≢ atoms_of m cmp old.rows key
      → (new.epoch ≡ risen old.epoch) × (changed_in cmp new key ≡ Some new.epoch)
  pub same : atoms_of m cmp new.rows key ≡ atoms_of m cmp old.rows key
      → changed_in cmp new key ≡ changed_in cmp old key

-- the epoch is as it was, unless some atom differs
abbrev pub StaysUnlessChanged : {R K V : Type 0}
    → Meaning K V → (K → K → Ordering) → values.Seen R K V → values.Seen R K V → Type 0
StaysUnlessChanged {R} {K} {V} m cmp old new =
    (new.epoch ≡ old.epoch)
    ⊎ ((key : K) × (atoms_of m cmp new.rows key ≢ atoms_of m cmp old.rows key))

-- the row of each key that a transaction didn't write is as it was
abbrev pub KeepsOtherRows : {R K V : Type 0}
    → (K → K → Ordering) → Level K V → values.Seen R K V → values.Seen R K V → Type 0
KeepsOtherRows {R} {K} {V} cmp level old new =
    (i : ℕ) (row : Row K V) → slice_get old.rows i ≡ Some row → (HasWritten cmp level row.key → ⊥)
    → slice_get new.rows i ≡ Some row

-- the run of a key meets no atom that a transaction wrote
abbrev pub MeetsNoneWritten : {R K V : Type 0}
    → Meaning K V → (K → K → Ordering) → Level K V → values.Seen R K V → K → Type 0
MeetsNoneWritten {R} {K} {V} m cmp level values key =
    (atom : K) → HasWritten cmp level atom → Meets m (atoms_of m cmp values.rows) atom key → ⊥

-- a fresh key whose run meets no atom that a transaction wrote stays fresh
abbrev pub KeepsOthersFresh : {R K V : Type 0}
    → Meaning K V → (K → K → Ordering) → Level K V → values.Seen R K V → values.Seen R K V → Type 0
KeepsOthersFresh {R} {K} {V} m cmp level old new =
    (key : K) → IsFreshKey old.rows old.fresh key → MeetsNoneWritten m cmp level old key
    → IsFreshKey new.rows new.fresh key

-- the newest transaction was aborted: the atoms are those at which it began, and those around it began where they did;
-- the epoch rises once where an atom changed, and each that did changed then
pub record IsAborted {R K V : Type 0} (m : Meaning K V) (cmp : K → K → Ordering)
    (old new : Seen R K V) : Type 0 where
  pub level : Level K V
  pub levels : old.journal.levels ≡ level ∷ new.journal.levels
  pub ring : new.journal.ring ≡ old.journal.ring
  pub writes : KeepsOn (drop 1) old new
  pub restored : begun m cmp old ≡ atoms_in m cmp new ∷ begun m cmp new
  pub rules : new.graph.values.rules ≡ old.graph.values.rules
  pub watches : new.graph.watches ≡ old.graph.watches
  pub epoch : StaysUnlessChanged m cmp old.graph.values new.graph.values
  pub changed : (key : K) → ChangesOnce m cmp old.graph.values new.graph.values key
  pub rows : KeepsOtherRows cmp level old.graph.values new.graph.values
  pub apart : KeepsOthersFresh m cmp level old.graph.values new.graph.values
