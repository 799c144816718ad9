use Rattle.std.proofs.Common.{◌≡◌, ◌≤◌, drop, length}
use Rattle.rooms_val.specs.View.{pairs_view}
use Rattle.shape_tree.specs.Sorting.{in_order}
use Rattle.shape_tree.specs.Trees.{sibling_order}
use Rattle.clip_content.specs.Pasted.{tops_among}
use Rattle.clip_content.specs.View.{clip_tree, spots_view}
use Rattle.clip_content.proofs.tops.spots_of.Given as goal

abbrev pub invariant-shapes : goal.invariant-shapes
invariant-shapes l = (spots_view l.spots.keys ≡ in_order sibling_order (tops_among (clip_tree l.clip) (pairs_view (drop l.left l.shapes)))) × (l.left ≤ length l.shapes)

abbrev pub decreases-shapes : goal.decreases-shapes
decreases-shapes l = l.left
