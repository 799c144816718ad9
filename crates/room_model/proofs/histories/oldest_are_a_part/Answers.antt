use Rattle.room_model.proofs.OldestLemmas.{length-oldest, oldest_twice}
use Rattle.room_model.proofs.histories.oldest_are_a_part.Goals as goal

pub returns-clause-count : goal.returns-clause-count
returns-clause-count c = length-oldest

pub returns-clause-twice : goal.returns-clause-twice
returns-clause-twice c = oldest_twice
