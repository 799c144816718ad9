use Rattle.std.proofs.Common.{◌+◌, drop, refl, sym, ap, ◌∙◌, arith}
use Rattle.rooms_val.proofs.ListLemmas.{one_off}
use Rattle.rooms_val.specs.Maps.{without_key}
use Rattle.client_replica.proofs.StashLemmas.{without_each, cleared}
use Rattle.client_replica.proofs.stepping.clear.Goals as goal

pub ids-init : goal.ids-init
ids-init g c = record {
  gone = λ rising. ap (λ ids. without_each ids (g.D.DocStore.records c.args.store.now)) (c.deref-id-items.ensures.value ∙ c.in_ok-ids.ensures) ∙ cleared (g.D.DocStore.records c.args.store.now) rising;
  begun = refl;
  rest = refl;
  ticks = omega arith;
}

pub ids-preserved : goal.ids-preserved
ids-preserved g c =
    let items = c.deref-id-items.result.now in
    let i = c.ids.id-index in
    let x = c.id-item.result in
    let left = drop (i + 1) items in
    let parts = one_off items i x c.ids-test.true c.id-item.is in
    let records = g.D.DocStore.records c.ids.store in
    let written = c.in_ok-write.ensures.ok ∙ ap (without_key records) c.as_str.ensures.bytes in
    let ticked = c.in_ok-write.ensures.ticked in
    record {
      gone = λ rising. ap (without_each left) written ∙ sym (ap (λ ids. without_each ids records) parts) ∙ c.ids.invariant.gone rising;
      begun = c.in_ok-write.ensures.begun ∙ c.ids.invariant.begun;
      rest = c.in_ok-write.ensures.rest ∙ c.ids.invariant.rest;
      ticks = omega arith;
    }
