use Rattle.world_laws.proofs.ShownLemmas.{few_stand}
use Rattle.world_laws.proofs.pending.clients_push_at_most_so_often.Goals as goal

pub returns : goal.returns
returns g c = few_stand
