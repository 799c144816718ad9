use Rattle.std.proofs.Common.{arith}
use Rattle.std.proofs.lemmas.Int.{ints}
use Rattle.rooms_val.specs.View.{data_of}
use Rattle.shape_tree.specs.Boxes.{moved}
use Rattle.shape_tree.proofs.BoxesLemmas.{rect_is}
use Rattle.shape_tree.proofs.boxes.move_box.Goals as goal

pub returns : goal.returns
returns c =
    rect_is _ _ _ _ (moved (data_of c.args.shape.now) c.args.inner) (omega (arith, ints, c.coordinate.ensures.value)) (omega (arith, ints, c.coordinate-2.ensures.value)) (omega (arith, ints)) (omega (arith, ints))
