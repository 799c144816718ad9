use Rattle.room_model.proofs.EntryLemmas.{reachable_names}
use Rattle.world_laws.proofs.DiffLemmas.{room_reached}
use Rattle.world_laws.proofs.presences.entries_name_their_own.Goals as goal

pub returns : goal.returns
returns g c schemas world lawful made = reachable_names schemas.room lawful.room world.room (room_reached schemas lawful world made)
