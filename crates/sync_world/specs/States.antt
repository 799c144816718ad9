-- A client with the base that it has of the room.
use Rattle.room_model.specs.Schemas.{WorldSchemas}
use Rattle.room_model.specs.Histories.{History}
use Rattle.room_model.specs.Replicas.{Client}
use Rattle.world_laws.specs.Told.{replica_of}
use Rattle.sync_client.specs.Calls.{ClientState}

abbrev pub client_state : {F : Type 0} → WorldSchemas F → History → Client → ClientState
client_state schemas history client = record { base = (replica_of schemas history client).base; client = client }
