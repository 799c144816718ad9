use Rattle.world_laws.proofs.BackLemmas.{ever_since}
use Rattle.world_laws.proofs.restoring.marks_bring_back_ever_since.Goals as goal

pub returns : goal.returns
returns g c schemas world number name before lawful since = ever_since schemas lawful number name before world since
