use Rattle.room_snapshot.proofs.LineLemmas.{one_room}
use Rattle.room_snapshot.proofs.laws.one_room_each.Goals as goal

pub returns : goal.returns
returns c = one_room
