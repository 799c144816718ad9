use Rattle.room_model.proofs.AcceptLemmas.{folded-accepted}
use Rattle.room_model.proofs.accepting.accepts_by_step.Goals as goal

pub returns : goal.returns
returns c = folded-accepted
