use Rattle.world_laws.proofs.BackLemmas.{bail_brings, undo_brings}
use Rattle.world_laws.proofs.restoring.going_back_shows_it_again.Goals as goal

pub returns-clause-bails : goal.returns-clause-bails
returns-clause-bails g c = bail_brings

pub returns-clause-undoes : goal.returns-clause-undoes
returns-clause-undoes g c = undo_brings
