-- What the code's values stand for.
use Rattle.std.specs.Prelude.{List, map}
use Rattle.shape_tree.specs.Trees.{Sibling}
use Rattle.room_model.specs.Clips.{ClipTree, TargetTree}
use Rattle.clip_content.specs.declared.clip.Clip.{Clip}
use Rattle.clip_content.specs.declared.target.Target.{Target}
use Rattle.clip_content.specs.declared.tops.Spot.{Spot}

abbrev pub clip_tree : Clip → ClipTree
clip_tree clip = record { shapes = clip.shapes; bindings = clip.bindings }

abbrev pub target_tree : Target → TargetTree
target_tree t = record { prefix = t.prefix.now; parent = t.parent.now; dx = t.dx; dy = t.dy }

abbrev pub spot_view : Spot → Sibling
spot_view s = record { index = s.index.now; id = s.id.now }

abbrev pub spots_view : List Spot → List Sibling
spots_view ss = map spot_view ss
