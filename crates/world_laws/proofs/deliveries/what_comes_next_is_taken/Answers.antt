use Rattle.world_laws.proofs.TakenLemmas.{takes_next}
use Rattle.world_laws.proofs.deliveries.what_comes_next_is_taken.Goals as goal

pub returns : goal.returns
returns g c = takes_next
