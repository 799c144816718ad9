use Rattle.world_laws.proofs.BarredLemmas.{barred_stand}
use Rattle.world_laws.proofs.requests.unfit_clients_are_told_nothing.Goals as goal

pub returns : goal.returns
returns g c = barred_stand
