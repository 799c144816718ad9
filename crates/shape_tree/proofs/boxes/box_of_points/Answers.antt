use Rattle.std.proofs.Common.{IfSome, Some, Option, sym, ap, subst, ◌∙◌}
use Rattle.rooms_val.specs.Json.{greatest_whole}
use Rattle.shape_tree.specs.declared.rect.Rect.{Rect}
use Rattle.shape_tree.specs.Boxes.{HasSidesWithin, joined}
use Rattle.shape_tree.proofs.BoxesLemmas.{corner_of, small_found, sides_joined, joined_more}
use Rattle.shape_tree.proofs.boxes.box_of_points.Goals as goal

pub join_box-found-requires-clause-a_small : goal.join_box-found-requires-clause-a_small
join_box-found-requires-clause-a_small c = small_found c.points.found c.points.invariant.1

pub points-preserved : goal.points-preserved
points-preserved c = (
  c.join_box-found.ensures
      ∙ ap (λ r. joined c.points.found (Some r)) c.point.ensures.value
      ∙ ap (λ o. joined o (corner_of c.val-item.result)) c.points.invariant.0
      ∙ sym (joined_more c.args.points.now c.points.val-index c.val-item.result c.points-test.true c.val-item.is),
  subst (λ (o : Option Rect). IfSome o (HasSidesWithin greatest_whole)) (sym c.join_box-found.ensures) (sides_joined c.points.found c.point.result c.points.invariant.1 c.point.ensures.small),
)
