use Rattle.room_model.proofs.OwnLemmas.{given_others}
use Rattle.room_model.proofs.rooms.gives_nothing_of_its_own.Goals as goal

pub returns : goal.returns
returns c schemas room session given lawful is = given_others schemas lawful room session given is
