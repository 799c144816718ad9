use Rattle.std.proofs.Common.{◌++◌, Some, ap, ◌∙◌}
use Rattle.std.specs.Option.{option_to_list}
use Rattle.doc_model.specs.Merging.{diff_after, merge}
use Rattle.doc_model.specs.Marks.{merge_some}
use Rattle.undo_marks.proofs.JoinLemmas.{settled, unsettled}
use Rattle.undo_marks.proofs.stretch.Stretch.settle.Goals as goal

pub returns-in-Ok-clause-same : goal.returns-in-Ok-clause-same
returns-in-Ok-clause-same c =
    ap (λ o. Some (diff_after (merge (option_to_list o)) c.join.new.older)) c.take.ensures.after
    ∙ settled c.in-Some-take.older c.in-Some.newer c.join.new.older c.tell_sound.ensures.0 c.tell_sound-2.ensures.0 c.in-Ok.ensures.ok
    ∙ (λ i. merge_some (option_to_list (c.in-Some-take.ensures.value i) ++ option_to_list (c.in-Some.ensures.value i)))

pub returns-in-Err-clause-same : goal.returns-in-Err-clause-same
returns-in-Err-clause-same c =
    unsettled c.in-Some-take.older c.in-Some.newer c.join.new.older c.tell_sound-2.ensures.0 c.in-Err.ensures.err
    ∙ (λ i. merge_some (option_to_list (c.in-Some-take.ensures.value i) ++ option_to_list (c.in-Some.ensures.value i)))
