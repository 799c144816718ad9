use Rattle.world_laws.proofs.DiffLemmas.{room_reached}
use Rattle.world_laws.proofs.worlds.calls_make_the_room.Goals as goal

pub returns : goal.returns
returns g c schemas world lawful = room_reached schemas lawful world
