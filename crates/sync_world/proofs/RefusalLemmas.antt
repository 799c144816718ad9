-- No message that is in flight to a client is refused by it.
use Rattle.std.proofs.Common.{◌≡◌, ◌∷◌, ℕ, List, Some, None, slice_get, subst}
use Rattle.room_model.specs.Schemas.{WorldSchemas, AreLawfulTogether}
use Rattle.room_model.specs.Replicas.{Client, session_of}
use Rattle.room_model.specs.Rooms.{Notice}
use Rattle.room_model.specs.Worlds.{World, Channel}
use Rattle.sync_client.specs.Faults.{take_fault}
use Rattle.sync_msgs.specs.declared.out.Out.TheVariants.{Message}
use Rattle.sync_msgs.specs.declared.server_message.ServerMessage.{ServerMessage}
use Rattle.world_laws.specs.Reachable.{ReachableWorld}
use Rattle.world_laws.specs.Told.{told, IsExpected}
use Rattle.world_laws.proofs.TakenLemmas.{takes_next}
use Rattle.sync_world.proofs.TakeLemmas.{expected_taken}

pub refuses_none : {F : Type 0} (schemas : WorldSchemas F) (w : World) (n k : ℕ) (c : Client) (channel : Channel) (notice : Notice) (notices : List Notice) (said : ServerMessage)
    → AreLawfulTogether schemas → ReachableWorld schemas w → slice_get w.clients n ≡ Some c → session_of c.connection ≡ Some k → slice_get w.channels k ≡ Some channel
    → channel.to_client ≡ notice ∷ notices → told schemas w.room c k notice ≡ Message said → take_fault c said ≡ None
refuses_none schemas w n k c channel notice notices said lawful reached made has there first says =
    let law = takes_next schemas w n k c channel notice notices lawful reached made has there first in
    expected_taken c k said (subst (IsExpected c k) says law.0)
