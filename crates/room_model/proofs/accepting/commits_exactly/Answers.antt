use Rattle.room_model.proofs.AcceptLemmas.{is_commit, makes_commit}
use Rattle.room_model.proofs.accepting.commits_exactly.Goals as goal

pub returns : goal.returns
returns c schemas member m diff = (is_commit schemas member m diff, makes_commit schemas member m diff)
