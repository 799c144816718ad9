-- What a base has become, held beside a store and a stash that lie over the base as it was.
use Rattle.std.specs.Prelude.{◌≡◌, ℕ, List, true, false, Option, Some, is_some, unwrap_or}
use Rattle.rooms_val.specs.Data.{Data, Pairs}
use Rattle.rooms_val.specs.Maps.{AreRising, value_at}
use Rattle.field_ops.specs.RecordOps.{RecordOps}
use Rattle.schema_core.specs.Tree.{SchemaTree}
use Rattle.schema_core.specs.Admits.{is_admitted, is_document}
use Rattle.doc_model.specs.Documents.{step}
use Rattle.doc_store.specs.Slots.{Slots}
use Rattle.room_model.specs.Schemas.{records_with}
use Rattle.room_model.specs.Replicas.{Pending}
use Rattle.room_model.specs.Taking.{Replica}
use Rattle.room_schemas.specs.Decided.{is_presence}
use Rattle.client_replica.specs.Parts.{ops_with}
use Rattle.client_replica.specs.Stashes.{under, is_named}

-- the record under an id: as it changed, else as the stash has it, else as the records have it
abbrev pub laid : Slots → Slots → Pairs → List ℕ → Option Data
laid changes stash m id = unwrap_or (value_at changes id) (under stash m id)

-- changes, laid over a stash and that over records, give a base
abbrev pub IsLaid : Pairs → Pairs → Slots → Slots → Type 0
IsLaid base m stash changes = (id : List ℕ) → laid changes stash m id ≡ value_at base id

-- over each base that the old changes give, the new ones give what a diff makes of it, by its operations on ids of the document
abbrev pub AreStepped : SchemaTree → RecordOps → Pairs → Slots → Slots → Slots → Type 0
AreStepped s diff m stash old new = (base : Pairs) → IsLaid base m stash old → IsLaid (step (is_admitted s) base (ops_with (is_document s) diff)) m stash new

-- each id of one map is an id of another
abbrev pub HasIdsOf : {X Y : Type 0} → List (List ℕ × X) → List (List ℕ × Y) → Type 0
HasIdsOf few more = (id : List ℕ) → is_some (value_at few id) ≡ true → is_some (value_at more id) ≡ true

-- the records that are held are a base's
abbrev pub IsOf : Pairs → Slots → Type 0
IsOf base slots = (id : List ℕ) → is_some (value_at slots id) ≡ true → value_at slots id ≡ Some (value_at base id)

-- diffs name ids of a stash alone
abbrev pub NamesWithin : List RecordOps → Slots → Type 0
NamesWithin diffs stash = (id : List ℕ) → is_some (value_at stash id) ≡ false → is_named diffs id ≡ false

-- a replica's base is its document, held by changes beside a store's records and a stash, and the presence of others; and this is pending over it
pub record IsAhead (s : SchemaTree) (replica : Replica) (pending : List Pending) (m : Pairs) (stash changes : Slots) (others : Pairs) : Type 0 where
  pub document : IsLaid (records_with (is_document s) replica.base) m stash changes
  pub presence : records_with (is_presence s) replica.base ≡ others
  pub left : replica.pending ≡ pending
  pub rising : AreRising replica.base
