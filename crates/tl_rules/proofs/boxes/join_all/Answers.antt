use Rattle.tl_rules.proofs.BoxLemmas.{numbers_small, boxes_more, small_more}
use Rattle.tl_rules.proofs.boxes.join_all.Goals as goal

pub join_box-found-requires-clause-a_small : goal.join_box-found-requires-clause-a_small
join_box-found-requires-clause-a_small c = numbers_small c.boxes.found c.boxes.invariant.1

pub boxes-preserved : goal.boxes-preserved
boxes-preserved c = (
  boxes_more c.args.own c.args.boxes.now c.boxes.answer-index c.answer-item.result c.boxes.found c.join_box-found.result c.rect.result c.boxes-test.true c.answer-item.is c.boxes.invariant.0 c.rect.ensures.value c.join_box-found.ensures,
  small_more c.boxes.found c.join_box-found.result c.rect.result c.boxes.invariant.1 c.rect.ensures.small c.join_box-found.ensures,
)
