use Rattle.room_model.proofs.ActingLemmas.{push_acts}
use Rattle.room_model.proofs.acting.pushes_act.Goals as goal

pub returns : goal.returns
returns c schemas member m push lawful = push_acts schemas lawful member m push
