-- What an open transaction keeps.
use Rattle.std.specs.Prelude.{ℕ, List, [], ◌++◌, take, drop, map, Option, is_some, unwrap_or, if◌then◌else◌}
use Rattle.std.specs.declared.cmp.Ordering.{Ordering}
use Rattle.std.specs.Map.{lookup}
use Rattle.std.specs.BTreeMap.{is_at, insert_entry}
use Rattle.signal_txn.specs.LastWrites.{LastWrites, no_writes}

-- by key, in order, the value before the first write since the transaction began, and the last of its writes
pub record Level (K V : Type 0) : Type 0 where
  pub before : List (K × V)
  pub last : LastWrites K V

-- nothing was written yet
abbrev pub unwritten : {K V : Type 0} → Level K V
unwritten = record { before = []; last = no_writes }

-- the value that a key had before its first write, if there was one
abbrev pub value_before : {K V : Type 0} → (K → K → Ordering) → Level K V → K → Option V
value_before cmp level key = lookup (is_at (cmp key)) level.before

-- the atoms at which the transaction began: the values before put back over what there is
abbrev pub began_at : {K V : Type 0} → (K → K → Ordering) → Level K V → (K → V) → K → V
began_at cmp level atoms key = unwrap_or (value_before cmp level key) (atoms key)

-- a key is written that had this value: only at its first write is that noted
abbrev pub noted : {K V : Type 0} → (K → K → Ordering) → K → V → Level K V → Level K V
noted cmp key v level =
    if is_some (value_before cmp level key) then level else record level { before = insert_entry cmp level.before key v }

-- the items from a place on changed so
abbrev pub map_from : {A : Type 0} → (A → A) → ℕ → List A → List A
map_from f place items = take place items ++ map f (drop place items)
