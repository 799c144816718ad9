use Rattle.room_snapshot.proofs.LineLemmas.{reads_line}
use Rattle.room_snapshot.proofs.laws.reads_the_line.Goals as goal

pub returns : goal.returns
returns c = reads_line
