use Rattle.std.proofs.Common.{◌≡◌, ◌+◌, ◌||◌, length, drop, sym, ap, subst, ◌∙◌, arith}
use Rattle.std.specs.Prelude.{is_some}
use Rattle.rooms_val.specs.Maps.{value_at, AreRising}
use Rattle.field_ops.specs.ViewRecordOps.{change_of, changes_view}
use Rattle.rooms_val.proofs.ListLemmas.{one_off}
use Rattle.schema_core.specs.Admits.{is_admitted}
use Rattle.schema_core.specs.SchemaOf.{schema_tree}
use Rattle.doc_model.specs.Documents.{step}
use Rattle.client_replica.specs.Stashes.{under, kept as keeps}
use Rattle.client_replica.proofs.StashLemmas.{under-kept, few-kept, rising-kept, exact-next, exact-end}
use Rattle.client_replica.proofs.replay.replay_diff.Goals as goal

pub ids-preserved : goal.ids-preserved
ids-preserved g c =
    let admits = is_admitted (schema_tree c.args.schema.now) in
    let items = c.as_slice-id-items.result.now in
    let i = c.ids.id-index in
    let x = c.ids-item.result in
    let left = drop (i + 1) items in
    let parts = one_off items i x c.ids-test.true c.ids-item.is in
    let records = g.D.DocStore.records c.ids.store in
    let kept : c.keep.new.self ≡ keeps c.ids.stash x.0 (value_at records x.0) = c.in_ok-keep.ensures.ok ∙ ap (λ k. keeps c.ids.stash k (value_at records k)) c.as_str.ensures.bytes in
    let stepped = c.in_ok-step_store.ensures.ok in
    record {
      done = ap (λ m. step admits m (changes_view left)) stepped ∙ sym (ap (λ l. step admits records (changes_view l)) parts) ∙ c.ids.invariant.done;
      base = λ q. (λ j. under (kept j) (stepped j) q) ∙ under-kept admits c.ids.stash records x.0 (change_of x.1) q ∙ c.ids.invariant.base q;
      exact = λ q. ap (λ s. is_some (value_at s q) || is_some (value_at left q)) kept ∙ exact-next c.ids.stash x left (g.D.DocStore.records c.ids.store) q
          ∙ sym (ap (λ l. is_some (value_at c.ids.stash q) || is_some (value_at l q)) parts) ∙ c.ids.invariant.exact q;
      few = let grew = few-kept c.ids.stash x.0 (value_at records x.0) c.ids.invariant.rising in let is = ap length kept in omega arith;
      rising = subst AreRising (sym kept) (rising-kept c.ids.stash x.0 (value_at records x.0) c.ids.invariant.rising);
      begun = c.in_ok-step_store.ensures.begun ∙ c.ids.invariant.begun;
      rest = c.in_ok-step_store.ensures.rest ∙ c.ids.invariant.rest;
      ticks = omega arith;
    }

pub returns-clause-exact : goal.returns-clause-exact
returns-clause-exact g c = λ q.
    exact-end change_of c.args.stash.now c.ids.stash c.as_slice-id-items.result.now c.args.diff.now c.ids.id-index (omega arith) c.as_slice-id-items.ensures.pairs q (c.ids.invariant.exact q)
