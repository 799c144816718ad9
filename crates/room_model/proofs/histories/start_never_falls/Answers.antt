use Rattle.room_model.proofs.HistoryLemmas.{start_rises, start_within}
use Rattle.room_model.proofs.histories.start_never_falls.Goals as goal

pub returns-clause-rises : goal.returns-clause-rises
returns-clause-rises c = start_rises

pub returns-clause-within : goal.returns-clause-within
returns-clause-within c = start_within
