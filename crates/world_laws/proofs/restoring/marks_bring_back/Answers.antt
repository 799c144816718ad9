use Rattle.world_laws.proofs.BackLemmas.{mark_brings, brings_on}
use Rattle.world_laws.proofs.restoring.marks_bring_back.Goals as goal

pub returns-clause-made : goal.returns-clause-made
returns-clause-made g c = mark_brings

pub returns-clause-goes_on : goal.returns-clause-goes_on
returns-clause-goes_on g c = brings_on
