use Rattle.std.proofs.Common.{sym, ap, take, ◌++◌, ◌∙◌}
use Rattle.join_job.specs.Texts.{lines_text}
use Rattle.join_job.proofs.LineTextLemmas.{text_more}
use Rattle.join_job.proofs.texts.lines_text.Goals as goal

pub lines-preserved : goal.lines-preserved
lines-preserved c =
    c.in_ok-extend_from_slice.ensures.items ∙ ap (λ t. t ++ c.deref.result.now) c.lines.invariant ∙ ap (λ t. lines_text (take c.lines.line-index c.args.lines.now) ++ t) (c.deref.ensures.value ∙ c.in_ok-print.ensures)
    ∙ sym (text_more c.args.lines.now c.lines.line-index c.line-item.result c.lines-test.true c.line-item.is)
