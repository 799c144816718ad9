use Rattle.std.proofs.Common.{◌≡◌, None, IfSome, map, take}
use Rattle.rooms_val.specs.Json.{greatest_whole}
use Rattle.shape_tree.specs.Boxes.{all_joined, HasSidesWithin}
use Rattle.shape_tree.proofs.BoxesLemmas.{corner_of}
use Rattle.shape_tree.proofs.boxes.box_of_points.Given as goal

abbrev pub invariant-points : goal.invariant-points
invariant-points l = (l.found ≡ all_joined None (map corner_of (take l.val-index l.points))) × IfSome l.found (HasSidesWithin greatest_whole)
