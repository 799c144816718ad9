use Rattle.std.proofs.Common.{◌≡◌, ◌∷◌, ◌++◌, drop, ◌+◌, sym, ap, subst, ◌∙◌}
use Rattle.std.proofs.lemmas.List.{at_drop_more}
use Rattle.rooms_val.specs.Maps.{AreRising}
use Rattle.field_ops.specs.ViewRecordOps.{changes_view, change_of}
use Rattle.side_effects.specs.Placed.{placed}
use Rattle.side_effects.proofs.PlacingLemmas.{kept_next, rising-placed}
use Rattle.side_effects.proofs.placing.placed_part.Goals as goal

pub ids-preserved : goal.ids-preserved
ids-preserved g c =
    let m = g.D.DocStore.records c.args.store.now in
    let items = c.as_slice-id-items.result.now in
    let i = c.ids.id-index in
    let item = c.ids-item.result in
    let left = changes_view (drop (i + 1) items) in
    let next : changes_view (drop i items) ≡ (item.0, change_of item.1) ∷ left =
    at_drop_more changes_view items i item c.ids-test.true ∙ ap (λ e. (e.0, change_of e.1) ∷ left) (sym c.ids-item.is) in
    let known : c.ids.diff ++ placed m ((item.0, change_of item.1) ∷ left) ≡ placed m (changes_view items) =
    ap (λ ops. c.ids.diff ++ placed m ops) (sym next) ∙ c.ids.invariant in
    kept_next m c.ids.diff c.keep_placed.new.diff (item.0, change_of item.1) left
    (subst AreRising (sym known) (rising-placed m (changes_view items) (subst AreRising (sym c.as_slice-id-items.ensures.pairs) c.as_slice-id-items.ensures.sound.0)))
    c.in_ok-keep_placed.ensures
    ∙ known
