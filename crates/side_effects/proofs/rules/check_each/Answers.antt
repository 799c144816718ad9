use Rattle.std.proofs.Common.{◌∷◌, drop, ◌+◌, sym, ap, ◌∙◌}
use Rattle.std.proofs.lemmas.List.{at_drop_more}
use Rattle.std.proofs.lemmas.Result.{err_from_is_err_and}
use Rattle.field_ops.specs.ViewRecordOps.{changes_view, change_of}
use Rattle.schema_core.specs.SchemaOf.{schema_tree}
use Rattle.side_effects.specs.Completed.{refuses, first_refusal}
use Rattle.side_effects.proofs.RuleLemmas.{refused_at, passed_at}
use Rattle.side_effects.proofs.rules.check_each.Goals as goal

pub returns-in_err-check_one : goal.returns-in_err-check_one
returns-in_err-check_one g c =
    let rule = refuses c.args.rule (schema_tree c.args.schema.now) (g.D.DocStore.records c.args.store.now) c.args.diff.now in
    let items = c.as_slice-entry-items.result.now in
    let i = c.loop-entry.entry-index in
    let item = c.entry-item.result in
    let left = changes_view (drop (i + 1) items) in
    let p = err_from_is_err_and c.from_residual.result c.from_residual.ensures.1 in
    rw (p.1, p.2) (refused_at rule c.args.wanted.now (changes_view (drop i items)) (item.0, change_of item.1) left _
    (at_drop_more changes_view items i item c.loop-entry-test.true ∙ ap (λ e. (e.0, change_of e.1) ∷ left) (sym c.entry-item.is))
    (c.loop-entry.invariant ∙ ap (λ ops. first_refusal rule ops) c.as_slice-entry-items.ensures.pairs)
    c.in_err-check_one.ensures)

pub loop-entry-preserved : goal.loop-entry-preserved
loop-entry-preserved g c =
    let rule = refuses c.args.rule (schema_tree c.args.schema.now) (g.D.DocStore.records c.args.store.now) c.args.diff.now in
    let items = c.as_slice-entry-items.result.now in
    let i = c.loop-entry.entry-index in
    let item = c.entry-item.result in
    let left = changes_view (drop (i + 1) items) in
    passed_at rule (changes_view items) (changes_view (drop i items)) (item.0, change_of item.1) left
    (at_drop_more changes_view items i item c.loop-entry-test.true ∙ ap (λ e. (e.0, change_of e.1) ∷ left) (sym c.entry-item.is))
    c.loop-entry.invariant c.in_ok-check_one.ensures
