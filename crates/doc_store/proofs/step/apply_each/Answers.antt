use Rattle.std.proofs.Common.{◌≡◌, ◌+◌, [], ◌∷◌, drop, refl, sym, ap, subst, ◌∙◌, arith}
use Rattle.rooms_val.specs.Maps.{value_at, AreRising}
use Rattle.field_ops.specs.RecordOps.{IsSoundDiff}
use Rattle.field_ops.specs.ViewRecordOps.{change_of, changes_view, maybe_change}
use Rattle.field_ops.proofs.SoundLemmas.{rising_records}
use Rattle.field_ops.proofs.WalkLemmas.{Going, going_first, going_next, going_done}
use Rattle.rooms_val.proofs.ListLemmas.{one_off}
use Rattle.schema_core.specs.SchemaOf.{schema_tree}
use Rattle.doc_model.specs.Documents.{step}
use Rattle.doc_model.specs.Inverses.{inverse_diff}
use Rattle.doc_model.specs.Inverses.{inverse_on}
use Rattle.doc_model.proofs.InverseLemmas.{rising-inverse_diff}
use Rattle.doc_store.specs.Checking.{admits_by}
use Rattle.doc_store.proofs.Applied.{Untouched, untouched_here, untouched_next, gives, gives_all}
use Rattle.doc_store.proofs.step.apply_each.Goals as goal

pub ids-init : goal.ids-init
ids-init g c =
    let admits = admits_by c.args.checked (schema_tree c.args.schema.now) in
    let m = g.D.DocStore.records c.args.store.now in
    let s = c.as_slice-id-items.result.now in
    let seen = c.as_slice-id-items.ensures.pairs in
    let rising = rising_records s (subst IsSoundDiff (sym seen) c.as_slice-id-items.ensures.sound) in
    let target = inverse_diff admits m c.args.diff.now in
    record {
      done = refl;
      back = subst (λ r. Going (gives admits m) target [] s r) (sym c.new-back.ensures) (going_first (gives admits m) target s (λ q. refl) (gives_all admits s c.args.diff.now m seen) rising);
      untouched = λ q there. refl;
      begun = refl;
      rest = refl;
      ticks = omega arith;
    }

pub ids-preserved : goal.ids-preserved
ids-preserved g c =
    let admits = admits_by c.args.checked (schema_tree c.args.schema.now) in
    let first = g.D.DocStore.records c.args.store.now in
    let now = g.D.DocStore.records c.ids.store in
    let s = c.as_slice-id-items.result.now in
    let i = c.ids.id-index in
    let x = c.ids-item.result in
    let op = change_of x.1 in
    let left = drop (i + 1) s in
    let target = inverse_diff admits first c.args.diff.now in
    let parts : drop i s ≡ x ∷ left = one_off s i x c.ids-test.true c.ids-item.is in
    let fresh : Untouched (x ∷ left) now first = subst (λ l. Untouched l now first) parts c.ids.invariant.untouched in
    let rising : AreRising (x ∷ left) = subst AreRising parts c.ids.invariant.back.rights_rise in
    let gave : inverse_on admits x.0 op (value_at first x.0) ≡ maybe_change c.in_ok-undo.undo =
    sym (c.in_ok-undo.ensures.back ∙ ap (inverse_on admits x.0 op) (untouched_here x left now first fresh)) in
    record {
      done = ap (λ m. step admits m (changes_view left)) c.in_ok-undo.ensures.ok ∙ sym (ap (λ l. step admits now (changes_view l)) parts) ∙ c.ids.invariant.done;
      back = subst (λ r. Going (gives admits first) target [] left r) (sym c.in_ok-keep.ensures)
          (going_next (gives admits first) target s i x c.ids.back (maybe_change c.in_ok-undo.undo) (λ q. refl) c.ids-test.true c.ids-item.is gave c.ids.invariant.back);
      untouched = subst (λ m. Untouched left m first) (sym c.in_ok-undo.ensures.ok) (untouched_next admits x left now first op rising fresh);
      begun = c.in_ok-undo.ensures.begun ∙ c.ids.invariant.begun;
      rest = c.in_ok-undo.ensures.rest ∙ c.ids.invariant.rest;
      ticks = omega arith;
    }

pub returns-clause-back : goal.returns-clause-back
returns-clause-back g c =
    let admits = admits_by c.args.checked (schema_tree c.args.schema.now) in
    let m = g.D.DocStore.records c.args.store.now in
    going_done (gives admits m) (inverse_diff admits m c.args.diff.now) c.as_slice-id-items.result.now c.ids.id-index c.ids.back (rising-inverse_diff admits m c.args.diff.now) (omega arith) c.ids.invariant.back
