use Rattle.world_laws.proofs.DueLemmas.{next_due}
use Rattle.world_laws.proofs.channels.what_comes_next_is_due.Goals as goal

pub returns : goal.returns
returns g c = next_due
