use Rattle.room_model.proofs.EntryLemmas.{reachable_names}
use Rattle.room_model.proofs.rooms.entries_name_their_own.Goals as goal

pub returns : goal.returns
returns c schemas room lawful = reachable_names schemas lawful room
