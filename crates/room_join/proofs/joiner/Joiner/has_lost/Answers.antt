use Rattle.room_join.proofs.joiner.Joiner.has_lost.Goals as goal

pub returns : goal.returns
returns c = λ schemas joiner stands. stands.lost
