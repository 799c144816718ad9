-- A base in two parts: the document, and the presence of others.
use Rattle.std.specs.Prelude.{◌≡◌, ℕ, List, length, filter, Bool}
use Rattle.rooms_val.specs.Data.{Pairs}
use Rattle.rooms_val.specs.Maps.{AreRising}
use Rattle.sync_msgs.specs.declared.server_message.Hydration.{Hydration}
use Rattle.sync_msgs.specs.declared.server_message.Hydration.TheVariants.{WipeAll, WipePresence}
use Rattle.field_ops.specs.RecordOps.{RecordOps}
use Rattle.room_model.specs.Schemas.{records_with}
use Rattle.room_model.specs.Replicas.{Pending}
use Rattle.room_model.specs.Taking.{Replica}
use Rattle.schema_core.specs.Tree.{SchemaTree}
use Rattle.schema_core.specs.Admits.{is_document}
use Rattle.room_schemas.specs.Decided.{is_presence}

-- the operations of a diff on ids that pass a test
abbrev pub ops_with : (List ℕ → Bool) → RecordOps → RecordOps
ops_with test diff = filter (λ c. test c.0) diff

-- a replica's base stands in two parts, and this is what is pending
pub record IsTaken (s : SchemaTree) (replica : Replica) (pending : List Pending) (records others : Pairs) : Type 0 where
  pub document : records_with (is_document s) replica.base ≡ records
  pub presence : records_with (is_presence s) replica.base ≡ others
  pub left : replica.pending ≡ pending
  pub rising : AreRising replica.base

-- how many records of a document a hydration takes away
abbrev pub wiped : Hydration → Pairs → ℕ
wiped WipeAll document = length document
wiped WipePresence document = 0
