use Rattle.world_laws.proofs.DiffLemmas.{room_reached}
use Rattle.world_laws.proofs.PresenceLemmas.{presences_live}
use Rattle.world_laws.proofs.presences.presences_are_of_live_sessions.Goals as goal

pub returns : goal.returns
returns g c schemas world lawful made = presences_live schemas.room lawful.room world.room (room_reached schemas lawful world made)
