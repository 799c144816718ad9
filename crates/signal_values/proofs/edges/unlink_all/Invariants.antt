use Rattle.std.proofs.Common.{◌≡◌, suc, map, length}
use Rattle.links_core.specs.Lists.{list_at, without}
use Rattle.signal_values.specs.Wired.{children_of, AreWired}
use Rattle.signal_values.proofs.edges.unlink_all.Given as goal

abbrev pub invariant-edges : goal.invariant-edges
invariant-edges l = record {
  wired : AreWired l.by_parent.lists l.by_child.lists l.by_parent.count l.by_child.count l.ends;
  same : map (without l.child) (children_of l.ends l.by_parent.lists) ≡ map (without l.child) (children_of l.ends l.initial.by_parent.lists);
  rows : length l.by_child.lists ≡ length l.initial.by_child.lists;
  parent_spare : l.by_parent.spare ≡ l.initial.by_parent.spare;
  child_spare : l.by_child.spare ≡ l.initial.by_child.spare;
}

abbrev pub decreases-edges : goal.decreases-edges
decreases-edges l = length (list_at l.by_child.lists (suc l.child))
