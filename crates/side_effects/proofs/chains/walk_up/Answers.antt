use Rattle.std.proofs.Common.{◌+◌, sym, ap, subst, ◌∙◌}
use Rattle.std.specs.Prelude.{bytes_eq}
use Rattle.doc_model.specs.Documents.{fold_raw}
use Rattle.side_effects.specs.Whole.{parent_at}
use Rattle.side_effects.proofs.ChainLemmas.{IsOnWay, one_up, met_now, ended_now}
use Rattle.side_effects.proofs.chains.walk_up.Goals as goal

pub returns-then-is_same : goal.returns-then-is_same
returns-then-is_same g c =
    let m = fold_raw (g.D.DocStore.records c.args.store.now) c.args.diff.now in
    met_now m c.args.id.now c.steps._step c.in-Some.above (subst (IsOnWay m c.args.id.now c.steps._step) c.in-Some.is c.steps.invariant)
    (ap (λ a. bytes_eq a c.args.id.now) (sym c.as_str.ensures.bytes) ∙ sym c.is_same.ensures ∙ c.if-is_same.true)

pub returns-in-None : goal.returns-in-None
returns-in-None g c =
    let m = fold_raw (g.D.DocStore.records c.args.store.now) c.args.diff.now in
    ended_now m c.args.id.now c.steps._step (subst (IsOnWay m c.args.id.now c.steps._step) c.in-None.is c.steps.invariant)

pub steps-preserved : goal.steps-preserved
steps-preserved g c =
    let m = fold_raw (g.D.DocStore.records c.args.store.now) c.args.diff.now in
    subst (IsOnWay m c.args.id.now (c.steps._step + 1)) (sym (c.in_ok-next-in-Some.ensures ∙ ap (parent_at m) c.as_str-in-Some.ensures.bytes))
    (one_up m c.args.id.now c.steps._step c.in-Some.above (subst (IsOnWay m c.args.id.now c.steps._step) c.in-Some.is c.steps.invariant)
    (ap (λ a. bytes_eq a c.args.id.now) (sym c.as_str.ensures.bytes) ∙ sym c.is_same.ensures ∙ c.if-is_same.false))
