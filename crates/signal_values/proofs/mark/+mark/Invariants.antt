use Rattle.std.proofs.Common.{◌≤◌}
use Rattle.signal_values.specs.Marks.{IsMarking}
use Rattle.signal_values.proofs.MarkLemmas.{fresh_count}
use Rattle.signal_values.proofs.mark.+mark.Given as goal

abbrev pub decreases-mark : goal.decreases-mark
decreases-mark l = fresh_count l.fresh.now.items

abbrev pub invariant-children : goal.invariant-children
invariant-children l = record {
  marking : IsMarking l.on l.initial.edges.children l.initial.fresh.items l.edges.children l.fresh.items;
  count : fresh_count l.fresh.items ≤ fresh_count l.initial.fresh.items;
}

abbrev pub decreases-children : goal.decreases-children
decreases-children l = fresh_count l.fresh.items
