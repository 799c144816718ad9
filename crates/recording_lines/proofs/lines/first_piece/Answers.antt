use Rattle.std.proofs.Common.{sym, ◌∙◌}
use Rattle.recording_lines.proofs.LinesLemmas.{IsFirstPiece-Some, IsFirstPiece-None}
use Rattle.recording_lines.proofs.lines.first_piece.Goals as goal

pub returns-in-Some : goal.returns-in-Some
returns-in-Some c = IsFirstPiece-Some c.args.bytes.now c.in-Some.end (sym c.newline_at.ensures ∙ c.in-Some.is)

pub returns-in-None : goal.returns-in-None
returns-in-None c = IsFirstPiece-None c.args.bytes.now (sym c.newline_at.ensures ∙ c.in-None.is)
