-- The lists of a board as atoms, and what a change of records leaves.
use Rattle.std.specs.Prelude.{◌≡◌, ◌≢◌, ◌⊎◌, ℕ, ◌<◌, ◌≤◌, List, [], ◌∷◌, length, Bool, true, false, Option, None, Some, slice_get, Contains}
use Rattle.std.specs.List.{AllWithin}
use Rattle.std.specs.List.Sorted.{IsPartitionedBy}
use Rattle.rooms_val.specs.Data.{Data, Pairs}
use Rattle.rooms_val.specs.Maps.{value_at}
use Rattle.shape_tree.specs.Trees.{Sibling}
use Rattle.signal_rules.specs.Values.{Meets}
use Rattle.signal_txn.specs.declared.write.Write.{Write}
use Rattle.signal_txn.specs.Level.{Level}
use Rattle.signal_txn.specs.Seen as txn
use Rattle.signal_txn.specs.Since.{diffs_after}
use Rattle.signal_values.specs.Kept.{IsFreshKey}
use Rattle.signal_values.specs.Seen.{top}
use Rattle.tl_rules.specs.Answers.{record_in}
use Rattle.tl_rules.specs.Exact.{key_cmp}
use Rattle.tl_rules.specs.Meaning.{tl_meaning}
use Rattle.tl_rules.specs.declared.key.TlKey.{TlKey}
use Rattle.tl_rules.specs.declared.key.TlKey.TheVariants as key
use Rattle.tl_rules.specs.declared.rules.TlRules.{TlRules}
use Rattle.tl_rules.specs.declared.value.TlValue.{TlValue}
use Rattle.tl_rules.specs.declared.value.TlValue.TheVariants as value
use Rattle.tl_rules.specs.declared.listing.Listing.{Listing}
use Rattle.tl_rules.specs.Listings.{owner_of, index_of, listed, is_before, key_of}
use Rattle.record_store.specs.Seen.{Keys, records_under}
use Rattle.signal_txn.specs.Turns.{AreInTurn}
use Rattle.record_store.specs.Tells.{written_under, written_all}

-- transactions over a board
abbrev pub Board : Type 0
Board = txn.Seen TlRules TlKey TlValue

-- the atoms of a board, and those at which its open transactions began
abbrev pub atoms_of : Board → TlKey → TlValue
atoms_of board = txn.atoms_in tl_meaning key_cmp board

abbrev pub begun_of : Board → List (TlKey → TlValue)
begun_of board = txn.begun tl_meaning key_cmp board

-- the records of a board
abbrev pub records_of : Keys → Board → Pairs
records_of keys board = records_under keys (atoms_of board)

-- the atoms of records have the records of a map
abbrev pub HasRecords : Board → Pairs → Type 0
HasRecords board m = (id : List ℕ) → record_in (atoms_of board (key.Rec id)) ≡ value_at m id

-- the atoms of one kind of lists are the lists of a map
abbrev pub AreLists : Listing → Board → Pairs → Type 0
AreLists l board m = (owner : List ℕ) → atoms_of board (key_of l owner) ≡ value.Ids (listed l m owner)

-- a place in a list
abbrev pub place_at : List ℕ → List ℕ → Sibling
place_at index id = record { index = index; id = id }

-- the id at a place of a list stands before another, or doesn't, in each map that has a board's records
abbrev pub IsBeforeAt : Listing → Board → Sibling → List (List ℕ) → ℕ → Bool → Type 0
IsBeforeAt l board place ids at before = (x : List ℕ) × (Some x ≡ slice_get ids at) × ((m : Pairs) → HasRecords board m → before ≡ is_before l m place x)

-- in each such map that parts a list at a place, so many ids stand before it
abbrev pub AreBefore : Listing → Board → Sibling → List (List ℕ) → ℕ → Type 0
AreBefore l board place ids low = (m : Pairs) → HasRecords board m → IsPartitionedBy (is_before l m place) ids → AllWithin (λ x. is_before l m place x ≡ true) ids 0 low

-- and none from another on
abbrev pub AreBehind : Listing → Board → Sibling → List (List ℕ) → ℕ → Type 0
AreBehind l board place ids high = (m : Pairs) → HasRecords board m → IsPartitionedBy (is_before l m place) ids → AllWithin (λ x. is_before l m place x ≡ false) ids high (length ids)

-- the key is that of the list in which a record stands
abbrev pub IsListOf : Listing → List ℕ → Option Data → TlKey → Type 0
IsListOf l id None k = ⊥
IsListOf l id (Some d) k = (owner : List ℕ) × (owner_of l (id, d) ≡ Some owner) × (k ≡ key_of l owner)

-- two records stand alike under an id: in the list of one owner, by one index
pub record StandAlike (l : Listing) (id : List ℕ) (d e : Data) : Type 0 where
  pub owner : owner_of l (id, d) ≡ owner_of l (id, e)
  pub index : index_of l d ≡ index_of l e

-- a record stands otherwise after a write than before: by another owner or index, or on one side alone
abbrev pub StandsOtherwise : Listing → List ℕ → Option Data → Option Data → Type 0
StandsOtherwise l id None None = ⊥
StandsOtherwise l id None (Some d) = Unit {0}
StandsOtherwise l id (Some d) None = Unit {0}
StandsOtherwise l id (Some d) (Some e) = StandAlike l id d e → ⊥

-- the key is that of a list that a record leaves or joins, or in which the record gets another place
abbrev pub IsMoved : Listing → List ℕ → Option Data → Option Data → TlKey → Type 0
IsMoved l id before after k = StandsOtherwise l id before after × (IsListOf l id before k ⊎ IsListOf l id after k)

-- so of any kind of lists
abbrev pub IsRelisted : List ℕ → Option Data → Option Data → TlKey → Type 0
IsRelisted id before after k = (l : Listing) × IsMoved l id before after k

-- the key is that of a record or of a list in which the record doesn't stand as before
abbrev pub IsWritten : List ℕ → Option Data → Option Data → TlKey → Type 0
IsWritten id before after k = (k ≡ key.Rec id) ⊎ IsRelisted id before after k

-- the run of a key meets none of these atoms
abbrev pub MeetsNone : (TlKey → Type 0) → Board → TlKey → Type 0
MeetsNone IsChanged board k = (atom : TlKey) → IsChanged atom → Meets tl_meaning (atoms_of board) atom k → ⊥

-- a key is fresh
abbrev pub IsFreshIn : Board → TlKey → Type 0
IsFreshIn board k = IsFreshKey board.graph.values.rows board.graph.values.fresh k

-- writes stand in their order
abbrev pub AreTurned : Board → Type 0
AreTurned board = AreInTurn board.journal.levels board.journal.ring board.graph.values.epoch

-- what the newest transaction wrote since an epoch leads from some records to others, unless some of that fell out
abbrev pub LeadsIn : ℕ → Pairs → Pairs → List (Level TlKey TlValue) → Type 0
LeadsIn since m n [] = Unit {0}
LeadsIn since m n (level ∷ around) = level.last.dropped ≤ since → written_all m (diffs_after since level.last.writes) ≡ n

abbrev pub Leads : ℕ → Pairs → Pairs → Board → Type 0
Leads since m n board = LeadsIn since m n board.journal.levels

-- a write of an atom leads on, or changed nothing
abbrev pub IsTold : TlKey → TlValue → Board → Board → Type 0
IsTold k v old new = (since : ℕ) (m n : Pairs) → since ≤ old.graph.values.epoch → AreTurned old → new.graph.values.epoch < top → Leads since m n old
    → Leads since m (written_under n k v) new ⊎ (Leads since m n new × (v ≡ atoms_of old k))

-- what was written leads on to the records
abbrev pub AreTold : Keys → Board → Board → Type 0
AreTold keys old new = (since : ℕ) (m : Pairs) → since ≤ old.graph.values.epoch → AreTurned old → new.graph.values.epoch < top
    → Leads since m (records_of keys old) old → Leads since m (records_of keys new) new

-- writes of these atoms leave records as they are
abbrev pub AreNoRecords : (TlKey → Type 0) → Type 0
AreNoRecords IsChanged = (k : TlKey) → IsChanged k → (n : Pairs) (v : TlValue) → written_under n k v ≡ n

-- all atoms but these are as they were
abbrev pub KeepsOthers : (TlKey → Type 0) → Board → Board → Type 0
KeepsOthers IsChanged old new = (k : TlKey) → (IsChanged k → ⊥) → atoms_of new k ≡ atoms_of old k

-- a fresh key whose run meets none of these atoms stays fresh
abbrev pub KeepsFresh : (TlKey → Type 0) → Board → Board → Type 0
KeepsFresh IsChanged old new = (k : TlKey) → IsFreshIn old k → MeetsNone IsChanged old k → IsFreshIn new k

-- a run that met none of these atoms meets no further one
abbrev pub MeetsNoFurther : (TlKey → Type 0) → Board → Board → Type 0
MeetsNoFurther IsChanged old new = (k atom : TlKey) → MeetsNone IsChanged old k
    → Meets tl_meaning (atoms_of new) atom k → Meets tl_meaning (atoms_of old) atom k

-- writes stand in their order still, as long as the epoch rises
abbrev pub KeepsOrder : Board → Board → Type 0
KeepsOrder old new = new.graph.values.epoch < top → AreTurned old → AreTurned new

-- what was written leads where it led, if these atoms are no records
abbrev pub KeepsLeading : (TlKey → Type 0) → Board → Board → Type 0
KeepsLeading IsChanged old new = AreNoRecords IsChanged → (since : ℕ) (m n : Pairs) → since ≤ old.graph.values.epoch → AreTurned old
    → new.graph.values.epoch < top → Leads since m n old → Leads since m n new

-- a write is among those of the newest transaction
abbrev pub IsNewest : List (Level TlKey TlValue) → Write TlKey TlValue → Type 0
IsNewest [] w = ⊥
IsNewest (level ∷ around) w = Contains level.last.writes w

-- what joined the writes of the newest transaction is of these atoms
abbrev pub AddsOnly : (TlKey → Type 0) → Board → Board → Type 0
AddsOnly IsChanged old new = (w : Write TlKey TlValue) → IsNewest new.journal.levels w → IsNewest old.journal.levels w ⊎ IsChanged w.key

-- only these atoms changed: others, fresh keys that meet none of them, watches, where transactions began, and what is committed
-- while one is open, are as they were; the epoch doesn't fall; and writes stand in their order and lead where they led
pub record ChangesOnly (IsChanged : TlKey → Type 0) (old new : Board) : Type 0 where
  pub others : KeepsOthers IsChanged old new
  pub begun : begun_of new ≡ begun_of old
  pub watches : new.graph.watches ≡ old.graph.watches
  pub depth : length new.journal.levels ≡ length old.journal.levels
  pub ring : old.journal.levels ≢ [] → new.journal.ring ≡ old.journal.ring
  pub epoch : old.graph.values.epoch ≤ new.graph.values.epoch
  pub apart : KeepsFresh IsChanged old new
  pub met : MeetsNoFurther IsChanged old new
  pub order : KeepsOrder old new
  pub told : KeepsLeading IsChanged old new
  pub adds : AddsOnly IsChanged old new
