use Rattle.std.proofs.Common.{sym, ◌∙◌}
use Rattle.doc_model.specs.Documents.{fold_raw}
use Rattle.side_effects.specs.Links.{links}
use Rattle.side_effects.proofs.RemovesLemmas.{none_removed}
use Rattle.side_effects.proofs.GoesLemmas.{none_goes, swept_is}
use Rattle.side_effects.proofs.removing.with_removes.Goals as goal

pub returns-then-not-has_remove : goal.returns-then-not-has_remove
returns-then-not-has_remove g c =
    none_goes (g.D.DocStore.records c.args.store.now) c.args.diff c.tell_rising.ensures (λ q. none_removed c.args.diff q (sym c.has_remove.ensures ∙ c.if-not-has_remove.true))

pub returns-then-not-branch : goal.returns-then-not-branch
returns-then-not-branch g c =
    let m = g.D.DocStore.records c.args.store.now in
    let diff = c.args.diff in
    swept_is m diff c.sweep.new.links.items c.sweep.new.all (c.in_ok-sweep.ensures.swept (links m (fold_raw m diff)) diff c.sweeps.invariant) (c.in_ok-sweep.ensures.free c.if-not-branch.true) c.tell_rising.ensures
