use Rattle.std.proofs.Common.{◌-◌, length}
use Rattle.signal_rules.specs.Meaning.{limit}
use Rattle.signal_values.specs.Cells.{atoms_of}
use Rattle.signal_values.specs.Kept.{IsLeft}
use Rattle.signal_values.proofs.AskLemmas.{IsAsking}
use Rattle.signal_values.proofs.run.+refresh.Given as goal

abbrev pub decreases-refresh : goal.decreases-refresh
decreases-refresh g l = (g.R.Rules.meaning l.rules.now).rank l.key.now

abbrev pub invariant-asks : goal.invariant-asks
invariant-asks g l = record {
  left : IsLeft (g.R.Rules.meaning l.rules) g.R.Key.Ord.cmp l.epoch l.initial.cells l.cells;
  asking : IsAsking (g.R.Rules.meaning l.rules) (atoms_of (g.R.Rules.meaning l.rules) g.R.Key.Ord.cmp l.initial.cells.rows.items) l.cells.rows.items l.cells.fresh.items l.key l.got.items l.parents.items;
}

abbrev pub decreases-asks : goal.decreases-asks
decreases-asks g l = limit - length l.got.items
