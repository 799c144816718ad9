-- The text that lines are written as.
use Rattle.std.specs.Prelude.{ℕ, List, [], ◌∷◌, ◌++◌, Bool, codes, if◌then◌else◌}
use Rattle.rooms_val.specs.Data.{map, members_of}
use Rattle.rooms_val.specs.Json.{text_of}
use Rattle.rec_format.specs.Outs.{fault_fields}
use Rattle.rec_format.specs.Printed.{printed_text}
use Rattle.rec_format.specs.declared.printed.PrintedLine.{PrintedLine}
use Rattle.recording_lines.specs.Lines.{newline}

-- the text of a line, with its newline
abbrev pub written_line : List ℕ → List ℕ
written_line text = text ++ newline ∷ []

-- the text of printed lines
abbrev pub lines_text : List PrintedLine → List ℕ
lines_text [] = []
lines_text (line ∷ lines) = written_line (printed_text line) ++ lines_text lines

-- where a recording is refused, by the number of the line, and why
abbrev pub fault_line : ℕ → List ℕ → List ℕ
fault_line at fault = written_line (text_of (map (members_of (fault_fields at fault))))

-- why a recording without an `end` line is refused: it stops, or it goes on too long
abbrev pub unended_text : Bool → List ℕ
unended_text whole = if whole then codes "Unended" else codes "TooMuch"
