use Rattle.world_laws.proofs.DiffLemmas.{room_reached}
use Rattle.world_laws.proofs.PresenceLemmas.{reachable_removals}
use Rattle.world_laws.proofs.presences.entries_without_author_remove.Goals as goal

pub returns : goal.returns
returns g c schemas world lawful made = reachable_removals schemas.room world.room (room_reached schemas lawful world made)
