use Rattle.room_model.proofs.ActingLemmas.{removal_acts}
use Rattle.room_model.proofs.acting.removals_act.Goals as goal

pub returns : goal.returns
returns c = removal_acts
