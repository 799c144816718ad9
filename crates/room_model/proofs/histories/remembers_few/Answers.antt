use Rattle.room_model.proofs.HistoryLemmas.{few_dead}
use Rattle.room_model.proofs.histories.remembers_few.Goals as goal

pub returns : goal.returns
returns c = few_dead
