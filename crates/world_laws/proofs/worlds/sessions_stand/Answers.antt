use Rattle.world_laws.proofs.SessionLemmas.{sessions_stand}
use Rattle.world_laws.proofs.worlds.sessions_stand.Goals as goal

pub returns : goal.returns
returns g c = sessions_stand
