use Rattle.room_model.proofs.CommitLemmas.{reachable_commits}
use Rattle.room_model.proofs.rooms.commits_have_what_they_say.Goals as goal

pub returns : goal.returns
returns c schemas room number session sent plan lawful reached = reachable_commits schemas lawful room reached number session sent plan
