use Rattle.index_keys.proofs.series.+push_halves.Given as goal

abbrev pub decreases-push_halves : goal.decreases-push_halves
decreases-push_halves l = l.count
