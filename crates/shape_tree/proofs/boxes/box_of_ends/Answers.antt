use Rattle.std.proofs.Common.{sym, subst}
use Rattle.rooms_val.specs.Json.{greatest_whole}
use Rattle.shape_tree.specs.Boxes.{HasSidesWithin}
use Rattle.shape_tree.proofs.BoxesLemmas.{sides_around}
use Rattle.shape_tree.proofs.boxes.box_of_ends.Goals as goal

pub returns-clause-small : goal.returns-clause-small
returns-clause-small c = subst (HasSidesWithin greatest_whole) (sym c.around.ensures) (sides_around greatest_whole c.point.result c.point-2.result c.point.ensures.small c.point-2.ensures.small)
