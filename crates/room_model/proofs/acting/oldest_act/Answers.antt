use Rattle.room_model.proofs.OldestLemmas.{acting-oldest, commit-oldest}
use Rattle.room_model.proofs.acting.oldest_act.Goals as goal

pub returns-clause-act : goal.returns-clause-act
returns-clause-act c = acting-oldest

pub returns-clause-commit : goal.returns-clause-commit
returns-clause-commit c = commit-oldest
