use Rattle.world_laws.proofs.ShownLemmas.{shows_room}
use Rattle.world_laws.proofs.pending.who_owes_nothing_shows_the_room.Goals as goal

pub returns : goal.returns
returns g c = shows_room
