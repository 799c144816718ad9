use Rattle.world_laws.proofs.LaterLemmas.{has_same}
use Rattle.world_laws.proofs.worlds.what_was_reached_stays.Goals as goal

pub returns : goal.returns
returns g c schemas trace world = has_same schemas world trace
