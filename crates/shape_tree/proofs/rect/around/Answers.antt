use Rattle.std.proofs.Common.{arith}
use Rattle.std.proofs.lemmas.Int.{ints, clamps}
use Rattle.shape_tree.specs.Boxes.{around}
use Rattle.shape_tree.proofs.BoxesLemmas.{rect_is}
use Rattle.shape_tree.proofs.rect.around.Goals as goal

pub returns : goal.returns
returns c =
    rect_is _ _ _ _ (around c.args.a c.args.b) (omega (arith, ints, clamps, c.span-x.ensures.start)) (omega (arith, ints, clamps, c.span-y.ensures.start)) (omega (arith, ints, clamps, c.span-x.ensures.size)) (omega (arith, ints, clamps, c.span-y.ensures.size))
