-- When an index can be refreshed, and what it then holds.
use Rattle.std.specs.Prelude.{◌≡◌, ◌⊎◌, ℕ, List, [], Option, None, Some}
use Rattle.rooms_val.specs.Data.{Pairs}
use Rattle.rooms_val.specs.Maps.{AreRising}
use Rattle.signal_txn.specs.Since.{IsUnknown}
use Rattle.record_store.specs.Seen.{Seen, records, epoch}
use Rattle.record_store.specs.Tells.{TellsFrom}
use Rattle.field_index.specs.declared.index.FieldIndex.{FieldIndex}
use Rattle.store_query.specs.Asking.{IsIndexOf}

-- the writes after an epoch lead to the store's records from records whose values the index holds
pub record IsBehind (index : FieldIndex) (store : Seen) (since : ℕ) : Type 0 where
  pub before : Pairs
  pub rising : AreRising before
  pub holds : IsIndexOf before index
  pub leads : TellsFrom store since before

-- what was written since an epoch isn't known, or it leads from what the index holds
abbrev pub CanRefreshSince : FieldIndex → Seen → Option ℕ → Type 0
CanRefreshSince index store None = Unit {0}
CanRefreshSince index store (Some since) = IsUnknown store.txn since ⊎ IsBehind index store since

-- the index was never refreshed, or the same of the epoch of its last refresh
abbrev pub CanRefresh : FieldIndex → Seen → Type 0
CanRefresh index store = CanRefreshSince index store index.epoch

-- the index holds the values of the store's records, and has the store's epoch
pub record IsRefreshed (store : Seen) (index : FieldIndex) : Type 0 where
  pub values : IsIndexOf (records store) index
  pub epoch : index.epoch ≡ Some (epoch store)

-- the index holds nothing, and was never refreshed
pub record IsUnrefreshed (index : FieldIndex) : Type 0 where
  pub values : index.values ≡ []
  pub epoch : index.epoch ≡ None

-- the index is still of the same field of the same type
pub record KeepsField (old new : FieldIndex) : Type 0 where
  pub type_name : new.type_name ≡ old.type_name
  pub field : new.field ≡ old.field
