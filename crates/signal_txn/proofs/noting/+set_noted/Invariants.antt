use Rattle.std.proofs.Common.{◌-◌, length}
use Rattle.signal_txn.proofs.noting.+set_noted.Given as goal

abbrev pub decreases-set_noted : goal.decreases-set_noted
decreases-set_noted g l = length l.levels.now.items - l.from
