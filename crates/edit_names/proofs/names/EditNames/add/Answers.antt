use Rattle.std.proofs.Common.{◌+◌, take, cond, ap, ◌∙◌, arith}
use Rattle.rooms_val.specs.Maps.{ties}
use Rattle.field_ops.specs.ViewRecordOps.{change_of}
use Rattle.edit_names.specs.Names.{count_at, once}
use Rattle.edit_names.proofs.NamesLemmas.{once-next, once-all, once-seen, rising-ids, rising-take}
use Rattle.edit_names.proofs.names.EditNames.add.Goals as goal

pub ids-preserved : goal.ids-preserved
ids-preserved c =
    let items = c.as_slice-ids.result.now in
    let rising = rising-ids change_of items c.args.diff.now c.as_slice-ids.ensures.pairs c.as_slice-ids.ensures.sound.0 in
    record {
      counts = λ q.
          let one = c.in-Ok.ensures.ok q ∙ ap (λ k. count_at c.ids.self q + cond (ties q k) 1 0) c.as_str.ensures.bytes in
          let was = c.ids.invariant.counts q in
          let next = once-next items c.ids.id-index c.ids-item.result q rising c.ids-test.true c.ids-item.is in
          omega (arith, one, was, next);
      counted = ap (λ n. n + 1) c.ids.invariant.counted;
    }

pub returns-clause-ok : goal.returns-clause-ok
returns-clause-ok c = λ q.
    let items = c.as_slice-ids.result.now in
    c.ids.invariant.counts q ∙ ap (λ n. count_at c.args.self.now q + n) (once-all items c.ids.id-index q (omega arith) ∙ once-seen change_of items q ∙ ap (λ d. once d q) c.as_slice-ids.ensures.pairs)

pub returns-in-Err-clause-err : goal.returns-in-Err-clause-err
returns-in-Err-clause-err c = λ q.
    let items = c.as_slice-ids.result.now in
    let rising = rising-ids change_of items c.args.diff.now c.as_slice-ids.ensures.pairs c.as_slice-ids.ensures.sound.0 in
    let same = ap (λ s. count_at s q) c.in-Err.ensures.err in
    let back = c.remove_each.ensures (rising-take c.ids.counted items rising) q in
    let was = c.ids.invariant.counts q in
    let many = ap (λ n. once (take n items) q) c.ids.invariant.counted in
    omega (arith, same, back, was, many)
