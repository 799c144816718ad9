use Rattle.std.proofs.Common.{◌≡◌, take}
use Rattle.join_job.specs.Texts.{lines_text}
use Rattle.join_job.proofs.texts.lines_text.Given as goal

-- the text of the lines so far
abbrev pub invariant-lines : goal.invariant-lines
invariant-lines l = l.text.items ≡ lines_text (take l.line-index l.lines)
