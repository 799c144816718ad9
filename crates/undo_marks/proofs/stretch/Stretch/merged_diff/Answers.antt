use Rattle.std.proofs.Common.{ap, ◌∙◌}
use Rattle.doc_model.specs.Merging.{diff_after}
use Rattle.undo_marks.proofs.JoinLemmas.{merged_none, merged_some}
use Rattle.undo_marks.proofs.stretch.Stretch.merged_diff.Goals as goal

pub returns-in-None-clause-merged : goal.returns-in-None-clause-merged
returns-in-None-clause-merged c = merged_none c.copy_or_empty.result c.args.self.now.joined c.args.self.now.latest c.in-None.is c.tell_inverses.ensures c.copy_or_empty.ensures

pub returns-in_ok-join-in-Some-clause-merged : goal.returns-in_ok-join-in-Some-clause-merged
returns-in_ok-join-in-Some-clause-merged c =
    c.in_ok-join-in-Some.ensures.ok ∙ ap (λ d. diff_after c.in-Some.latest d) c.in_ok-diff-in-Some.ensures
    ∙ merged_some c.args.self.now.joined c.args.self.now.latest c.in-Some.latest c.in-Some.is c.tell_inverses.ensures
