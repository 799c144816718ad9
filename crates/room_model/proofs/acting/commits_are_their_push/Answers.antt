use Rattle.room_model.proofs.CommitLemmas.{commit_pushed}
use Rattle.room_model.proofs.acting.commits_are_their_push.Goals as goal

pub returns : goal.returns
returns c schemas member m push author lawful taken by commit = commit_pushed schemas lawful member m push author taken by commit
