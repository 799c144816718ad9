use Rattle.room_model.proofs.EntryLemmas.{reachable_acts}
use Rattle.room_model.proofs.rooms.entries_act.Goals as goal

pub returns : goal.returns
returns c = reachable_acts
