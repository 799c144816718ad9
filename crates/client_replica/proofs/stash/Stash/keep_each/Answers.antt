use Rattle.std.proofs.Common.{◌+◌, ◌||◌, length, drop, sym, ap, subst, ◌∙◌, arith}
use Rattle.std.specs.Prelude.{is_some}
use Rattle.rooms_val.specs.Maps.{value_at, AreRising}
use Rattle.field_ops.specs.ViewRecordOps.{change_of}
use Rattle.rooms_val.proofs.ListLemmas.{one_off}
use Rattle.client_replica.specs.Stashes.{under}
use Rattle.client_replica.proofs.StashLemmas.{under-held, few-kept, rising-kept, exact-next, exact-end}
use Rattle.client_replica.proofs.stash.Stash.keep_each.Goals as goal

pub ids-preserved : goal.ids-preserved
ids-preserved g c =
    let items = c.as_slice-id-items.result.now in
    let i = c.ids.id-index in
    let x = c.ids-item.result in
    let left = drop (i + 1) items in
    let parts = one_off items i x c.ids-test.true c.ids-item.is in
    let records = g.D.DocStore.records c.args.store.now in
    let kept = c.in_ok-keep_fresh.ensures.ok in
    record {
      base = λ q. ap (λ s. under s records q) kept ∙ under-held c.ids.self records x.0 q ∙ c.ids.invariant.base q;
      exact = λ q. ap (λ s. is_some (value_at s q) || is_some (value_at left q)) kept ∙ exact-next c.ids.self x left records q
          ∙ sym (ap (λ l. is_some (value_at c.ids.self q) || is_some (value_at l q)) parts) ∙ c.ids.invariant.exact q;
      few = let grew = few-kept c.ids.self x.0 (value_at records x.0) c.ids.invariant.rising in let is = ap length kept in omega arith;
      rising = subst AreRising (sym kept) (rising-kept c.ids.self x.0 (value_at records x.0) c.ids.invariant.rising);
      fresh = c.in_ok-keep_fresh.ensures.fresh ∙ c.ids.invariant.fresh;
    }

pub returns-clause-exact : goal.returns-clause-exact
returns-clause-exact g c = λ q.
    exact-end change_of c.args.self.now c.ids.self c.as_slice-id-items.result.now c.args.diff.now c.ids.id-index (omega arith) c.as_slice-id-items.ensures.pairs q (c.ids.invariant.exact q)
