use Rattle.std.proofs.Common.{◌≡◌, sym, ap, subst, ◌∙◌}
use Rattle.std.specs.Prelude.{option_map, IfOk}
use Rattle.field_ops.specs.ViewRecordOps.{change_of}
use Rattle.shape_tree.specs.Records.{text_or_empty}
use Rattle.side_effects.proofs.AfterLemmas.{after_op, after_none}
use Rattle.side_effects.proofs.after.text_after.Goals as goal

pub returns-in-Some : goal.returns-in-Some
returns-in-Some g c =
    subst (λ o. IfOk c.text_left.result (λ t. t ≡ option_map (λ d. text_or_empty d c.args.key.now) o))
    (sym (after_op (g.D.DocStore.records c.args.store.now) c.args.diff.now c.args.id.now (change_of c.in-Some.op.now) c.tell_rising.ensures c.in-Some.ensures))
    c.text_left.ensures

pub returns-in-None : goal.returns-in-None
returns-in-None g c =
    let is = after_none (g.D.DocStore.records c.args.store.now) c.args.diff.now c.args.id.now c.tell_rising.ensures c.in-None.ensures in
    subst (λ o. IfOk c.text_of.result (λ t. t ≡ option_map (λ d. text_or_empty d c.args.key.now) o))
    (c.get-in-None.ensures.found ∙ sym is)
    c.text_of.ensures
