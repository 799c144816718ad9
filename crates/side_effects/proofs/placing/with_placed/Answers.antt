use Rattle.std.proofs.Common.{◌≡◌, length, Ok, ◌∷◌, drop, ◌+◌, sym, ap, subst, ◌∙◌}
use Rattle.std.proofs.lemmas.List.{at_drop_more}
use Rattle.field_ops.specs.ViewRecordOps.{changes_view, change_of}
use Rattle.schema_core.specs.SchemaOf.{schema_tree}
use Rattle.doc_model.specs.Documents.{fold_raw}
use Rattle.side_effects.specs.Placed.{unplaced, all_placed}
use Rattle.side_effects.specs.Tops.{AreTops, IsPlacing}
use Rattle.side_effects.proofs.PlacingLemmas.{starts_placing, all_are_placed}
use Rattle.side_effects.proofs.placing.with_placed.Goals as goal

pub returns-then-len : goal.returns-then-len
returns-then-len g c =
    let m = g.D.DocStore.records c.args.store.now in
    let s = schema_tree c.args.schema.now in
    ap (λ d. all_placed s m d (unplaced m c.args.wanted.now)) c.requires
    ∙ all_are_placed s m c.args.wanted.now (ap length (sym c.requires) ∙ sym c.len.ensures.count ∙ c.if-len.true ∙ c.len-2.ensures.count)
    ∙ ap (λ d. Ok d) (sym c.requires)

pub ids-init : goal.ids-init
ids-init g c =
    let m = g.D.DocStore.records c.args.store.now in
    let s = schema_tree c.args.schema.now in
    let pairs = c.as_slice-id-items.ensures.pairs in
    record {
      stands = subst (λ ops. IsPlacing m c.in_ok-tops.tops c.args.diff ops) (sym pairs)
          (subst (λ d. IsPlacing m c.in_ok-tops.tops d c.args.wanted.now) (sym c.requires)
          (starts_placing m c.in_ok-tops.tops c.args.wanted.now c.tell_store.ensures c.len-2.ensures.sound.0 (subst (λ d. AreTops (fold_raw m d) c.in_ok-tops.tops) c.requires c.in_ok-tops.ensures)));
      same = ap (λ ops. all_placed s m c.args.diff (unplaced m ops)) pairs;
    }

pub ids-preserved : goal.ids-preserved
ids-preserved g c =
    let m = g.D.DocStore.records c.args.store.now in
    let s = schema_tree c.args.schema.now in
    let items = c.as_slice-id-items.result.now in
    let i = c.ids.id-index in
    let item = c.ids-item.result in
    let left = changes_view (drop (i + 1) items) in
    let next : changes_view (drop i items) ≡ (item.0, change_of item.1) ∷ left =
    at_drop_more changes_view items i item c.ids-test.true ∙ ap (λ e. (e.0, change_of e.1) ∷ left) (sym c.ids-item.is) in
    let stands = subst (λ ops. IsPlacing m c.ids.tops c.ids.diff ops) next c.ids.invariant.stands in
    record {
      stands = c.in_ok-place.ensures.stands left stands;
      same = sym (c.in_ok-place.ensures.next left stands) ∙ ap (λ ops. all_placed s m c.ids.diff (unplaced m ops)) (sym next) ∙ c.ids.invariant.same;
    }
