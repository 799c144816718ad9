use Rattle.shape_tree.proofs.SmallLemmas.{small_box, small_boxes}
use Rattle.shape_tree.proofs.laws.boxes_are_small.Goals as goal

pub returns-clause-sides : goal.returns-clause-sides
returns-clause-sides c = λ m id levels. small_box levels m id

pub returns-clause-numbers : goal.returns-clause-numbers
returns-clause-numbers c = small_boxes
