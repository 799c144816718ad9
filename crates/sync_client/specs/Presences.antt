-- A client's own presence: which record it may be, and what setting it makes of the client.
use Rattle.std.specs.Prelude.{ℕ, List, [], codes, if◌then◌else◌, Option, Some, option_map, option_and_then, unwrap_or}
use Rattle.rooms_val.specs.Data.{Data}
use Rattle.rooms_val.specs.Kinds.{field, as_text}
use Rattle.schema_core.specs.Tree.{SchemaTree}
use Rattle.schema_core.specs.Admits.{first_fault}
use Rattle.room_model.specs.Replicas.{Client, presence, with_work, is_open}
use Rattle.room_schemas.specs.Decided.{is_presence}
use Rattle.sync_client.specs.declared.fault.PresenceFault.{PresenceFault}
use Rattle.sync_client.specs.declared.fault.PresenceFault.TheVariants.{WrongScope, Invalid}

-- the id that a record says it has, and `-`, which is no id, if it says none
abbrev pub id_of : Data → List ℕ
id_of d = unwrap_or (option_and_then as_text (field d (codes "id"))) (codes "-")

-- why a record can't be a client's presence, if it can't
abbrev pub presence_fault : SchemaTree → Data → Option PresenceFault
presence_fault s d = if is_presence s (id_of d) then option_map (λ fault. Invalid (id_of d) fault) (first_fault s (id_of d) d) else Some (WrongScope (id_of d))

-- a client sets its presence, which is pending if the client is connected
abbrev pub with_presence : Data → Client → Client
with_presence d client = let set = record client { presence = Some d } in if is_open client.connection then with_work (presence d) set else set
