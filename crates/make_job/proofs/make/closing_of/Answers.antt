use Rattle.std.proofs.Common.{get_or, ap, ◌∙◌}
use Rattle.make_job.proofs.make.closing_of.Goals as goal

pub returns-in-len1 : goal.returns-in-len1
returns-in-len1 c = λ clock doc presence is.
    c.closing_in.ensures clock doc presence (c.line-item.is ∙ ap (λ ls. get_or ls 0 c.line-item.result) is)
