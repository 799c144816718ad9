use Rattle.std.proofs.Common.{sym, ap, ◌∙◌}
use Rattle.side_effects.specs.Completed.{refusal}
use Rattle.side_effects.proofs.PageLemmas.{no_page_lost, none_had, one_left, all_lost}
use Rattle.side_effects.proofs.whole.check_pages.Goals as goal

pub returns-then-not-removes_page : goal.returns-then-not-removes_page
returns-then-not-removes_page g c =
    ap refusal (no_page_lost (g.D.DocStore.records c.args.store.now) c.args.diff.now c.tell_rising.ensures (sym c.removes_page.ensures ∙ c.if-not-removes_page.true))

pub returns-then-not-had_page : goal.returns-then-not-had_page
returns-then-not-had_page g c =
    let m = g.D.DocStore.records c.args.store.now in
    ap refusal (none_had m c.args.diff.now c.tell_rising.ensures c.as_slice-held.result.now (c.as_slice-held.ensures.value ∙ c.in_ok-ids.ensures) (sym c.had_page.ensures ∙ c.if-not-had_page.true))

pub returns-then-has_page : goal.returns-then-has_page
returns-then-has_page g c =
    let m = g.D.DocStore.records c.args.store.now in
    ap refusal (one_left m c.args.diff.now c.tell_rising.ensures c.as_slice-held.result.now (c.as_slice-held.ensures.value ∙ c.in_ok-ids.ensures) (sym c.has_page.ensures ∙ c.if-has_page.true))

pub returns : goal.returns
returns g c =
    let m = g.D.DocStore.records c.args.store.now in
    λ _. ap refusal (all_lost m c.args.diff.now c.tell_rising.ensures c.as_slice-held.result.now (c.as_slice-held.ensures.value ∙ c.in_ok-ids.ensures) (sym c.had_page.ensures ∙ c.if-not-had_page.false) (sym c.has_page.ensures ∙ c.if-has_page.false))
