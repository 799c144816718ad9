-- For which of `room_model`'s clients, with which base, a peer stands.
use Rattle.std.specs.Prelude.{Result, Ok, Err}
use Rattle.field_ops.specs.RecordOps.{RecordOps}
use Rattle.schema_core.specs.SchemaOf.{schema_tree}
use Rattle.room_model.specs.Schemas.{WorldSchemas}
use Rattle.side_effects.specs.declared.fault.EditFault.{EditFault}
use Rattle.tl_tables.specs.Tables.{IsVersion, IsSchemaAt}
use Rattle.sync_client.specs.Calls.{ClientState}
use Rattle.sync_client.specs.Standing as client
use Rattle.undo_marks.specs.Standing as marks
use Rattle.peer_schemas.specs.Clients.{AreOfTables}
use Rattle.sync_peer.specs.Calls.{records_of, edited}
use Rattle.sync_peer.specs.declared.peer.Peer.{Peer}

-- a peer stands for a client with its base, by what the tables decide
pub record Stands (schemas : WorldSchemas EditFault) (state : ClientState) (peer : Peer) : Type 0 where
  pub tables : AreOfTables schemas
  -- its schema is that of the client's version
  pub known : IsVersion state.client.version
  pub version : IsSchemaAt state.client.version (schema_tree peer.client.replica.schema)
  pub client : client.Stands records_of state peer.client
  pub marks : marks.Stands state.client.marks peer.marks

-- a peer stands for a client with a further edit, which was completed
abbrev pub Edits : WorldSchemas EditFault → ClientState → Result RecordOps EditFault → Peer → Type 0
Edits schemas state (Ok diff) peer = Stands schemas (edited schemas diff state) peer
Edits schemas state (Err fault) peer = ⊥
