use Rattle.std.proofs.Common.{length}
use Rattle.migrate_steps.proofs.row.+walk.Given as goal

abbrev pub decreases-walk : goal.decreases-walk
decreases-walk l = length l.path.now
