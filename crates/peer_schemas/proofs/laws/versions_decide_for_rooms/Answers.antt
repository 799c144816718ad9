use Rattle.peer_schemas.proofs.RoomLemmas.{same_decided}
use Rattle.peer_schemas.proofs.laws.versions_decide_for_rooms.Goals as goal

pub returns : goal.returns
returns c = same_decided
