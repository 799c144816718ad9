-- What the schemas of the tables decide: for a client by its version alone, for a room by its schema.
use Rattle.std.specs.Prelude.{◌≡◌, ℕ, min, [], length, map, fold, option_map}
use Rattle.rooms_val.specs.Data.{Data, Pairs}
use Rattle.rooms_val.specs.Maps.{AreRising, with_key}
use Rattle.field_ops.specs.RecordOps.{RecordOps}
use Rattle.migrate_seq.specs.Plans.{newest_versions}
use Rattle.migrate_seq.specs.Versions.{Versions}
use Rattle.schema_core.specs.Admits.{is_admitted}
use Rattle.schema_core.specs.Builds.{by_name}
use Rattle.schema_core.specs.Tree.{SchemaTree}
use Rattle.room_model.specs.Clips.{Clipping}
use Rattle.room_model.specs.Schemas.{ClientSchema, WorldSchemas}
use Rattle.room_schemas.specs.Decided.{decided}
use Rattle.side_effects.specs.Completed.{completed}
use Rattle.clip_content.specs.Copied.{taken}
use Rattle.clip_content.specs.Pasted.{pasted}
use Rattle.side_effects.specs.declared.fault.EditFault.{EditFault}
use Rattle.side_effects.specs.declared.fault.EditFault.TheVariants as edit
use Rattle.sync_client.specs.Presences.{presence_fault}
use Rattle.sync_client.specs.declared.fault.PresenceFault.{PresenceFault}
use Rattle.sync_client.specs.declared.fault.PresenceFault.TheVariants as presence
use Rattle.tl_tables.specs.Migrations.{sequences}
use Rattle.tl_tables.specs.Tables.{IsVersion, IsSchemaAt}
use Rattle.tl_tables.specs.Types.{type_rows}
use Rattle.tl_tables.specs.declared.tables.TheConstants.{NEWEST_VERSION}

-- the version of the tables at a version: above the newest one they stay as they are
abbrev pub table_version : ℕ → ℕ
table_version version = min version NEWEST_VERSION

-- the types of the tables at a version, which alone say what is admitted, completed and a presence
abbrev pub types_at : ℕ → SchemaTree
types_at version = record { types = by_name (type_rows (table_version version)); sequences = [] }

-- the newest migration of each sequence at a version
abbrev pub newest_at : ℕ → Versions
newest_at version = map (λ s. (s.id, length s.migrations)) (sequences (table_version version))

-- the operations in the order of their ids, and of those on one id the last; a diff of the code is so as it is
abbrev pub by_id : RecordOps → RecordOps
by_id wanted = fold (λ diff c. with_key diff c.0 c.1) [] wanted

-- the fault of an edit that has the name of a presence's
abbrev pub edit_fault_of : PresenceFault → EditFault
edit_fault_of (presence.WrongScope id) = edit.WrongScope id
edit_fault_of (presence.Invalid id fault) = edit.Invalid id fault
edit_fault_of presence.OutOfMemory = edit.OutOfMemory

-- what the tables decide for a client of a version
abbrev pub client_at : ℕ → ClientSchema EditFault
client_at version = record {
  admits = is_admitted (types_at version);
  complete = λ document wanted. completed (types_at version) document (by_id wanted);
  presence_fault = λ d. option_map edit_fault_of (presence_fault (types_at version) d);
  versions = newest_at version;
}

-- what is copied and pasted, whatever the version
abbrev pub clipping : Clipping
clipping = record { copied = taken; pasted = pasted }

-- what they decide where the room has this schema
abbrev pub schemas_of : SchemaTree → WorldSchemas EditFault
schemas_of s = record { room = decided s; client = client_at; clips = clipping }

-- schemas are those of the tables: the room's is one of theirs
pub record AreOfTables (schemas : WorldSchemas EditFault) : Type 0 where
  pub version : ℕ
  pub known : IsVersion version
  pub room : SchemaTree
  pub at : IsSchemaAt version room
  pub are : schemas ≡ schemas_of room

-- what is decided for a client is what a schema decides
pub record IsDecidedBy (s : SchemaTree) (client : ClientSchema EditFault) : Type 0 where
  pub admits : client.admits ≡ is_admitted s
  -- of a diff of the code, whose ids rise
  pub completes : (document : Pairs) (wanted : RecordOps) → AreRising wanted → client.complete document wanted ≡ completed s document wanted
  pub refuses : (d : Data) → client.presence_fault d ≡ option_map edit_fault_of (presence_fault s d)
  pub versions : client.versions ≡ newest_versions s.sequences
