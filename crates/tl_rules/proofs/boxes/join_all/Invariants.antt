use Rattle.std.proofs.Common.{◌≡◌, ◌^◌, map, take, IfSome}
use Rattle.shape_tree.specs.Boxes.{all_joined, HasSidesWithin}
use Rattle.tl_rules.specs.Answers.{box_in}
use Rattle.tl_rules.proofs.boxes.join_all.Given as goal

abbrev pub invariant-boxes : goal.invariant-boxes
invariant-boxes l = (l.found ≡ all_joined l.fn.own (map box_in (take l.answer-index l.boxes))) × IfSome l.found (HasSidesWithin (2 ^ 59))
