use Rattle.std.proofs.Common.{◌-◌, cond, ap, ◌∙◌, arith}
use Rattle.rooms_val.specs.Maps.{ties}
use Rattle.edit_names.specs.Names.{count_at}
use Rattle.edit_names.proofs.NamesLemmas.{once-next}
use Rattle.edit_names.proofs.names.EditNames.remove_each.Goals as goal

pub ids-preserved : goal.ids-preserved
ids-preserved c = λ rising q.
    let one = c.remove_one.ensures q ∙ ap (λ k. count_at c.ids.self q - cond (ties q k) 1 0) c.as_str.ensures.bytes in
    let was = c.ids.invariant rising q in
    let next = once-next c.args.ids.now c.ids.id-index c.ids-item.result q rising c.ids-test.true c.ids-item.is in
    omega (arith, one, was, next)
