use Rattle.std.proofs.Common.{◌≡◌, sym, ap, subst, ◌∙◌}
use Rattle.std.specs.Prelude.{option_map, IfOk}
use Rattle.rooms_val.specs.Maps.{value_at}
use Rattle.field_ops.specs.Patched.{raw}
use Rattle.field_ops.specs.ViewRecordOps.{change_of}
use Rattle.shape_tree.specs.Records.{text_or_empty}
use Rattle.side_effects.proofs.AfterLemmas.{kept_texts, none_found}
use Rattle.side_effects.proofs.after.text_left.Goals as goal

pub returns-then-is_none : goal.returns-then-is_none
returns-then-is_none g c =
    let key = c.args.key.now in
    let r = value_at (g.D.DocStore.records c.args.store.now) c.args.id.now in
    let none = none_found _ c.get.result _ _ c.is_none.ensures c.if-is_none.true c.get.ensures in
    subst (λ o. IfOk c.text_of-then-is_none.result (λ t. t ≡ o))
    (ap (λ o. option_map (λ d. text_or_empty d key) o) c.get-before.ensures.found ∙ sym (kept_texts c.in-Patch.patch key none r)
    ∙ ap (λ op. option_map (λ d. text_or_empty d key) (raw (change_of op) r)) (sym c.in-Patch.is))
    c.text_of-then-is_none.ensures
