use Rattle.room_model.proofs.AnswerLemmas.{answered_before, answered_after}
use Rattle.room_model.proofs.bases.answers_go_on.Goals as goal

pub returns-clause-before : goal.returns-clause-before
returns-clause-before c = answered_before

pub returns-clause-after : goal.returns-clause-after
returns-clause-after c = answered_after
