-- The text that a script's client writes.
use Rattle.std.specs.Prelude.{◌≡◌, ℕ, nat_le, List, [], ◌∷◌, ◌++◌, length, Bool, ◌&&◌, codes, if◌then◌else◌}
use Rattle.rec_format.specs.Outs.{fault_fields}
use Rattle.rec_format.specs.declared.read.TheConstants.{LONGEST_LINE}
use Rattle.recording_lines.specs.Lines.{is_blank}
use Rattle.room_join.specs.Lines.{line_fields, fields_text, written_line}
use Rattle.room_join.specs.declared.join_line.JoinLine.{JoinLine}

-- the text of lines
abbrev pub lines_text : List JoinLine → List ℕ
lines_text [] = []
lines_text (line ∷ lines) = written_line (fields_text (line_fields line)) ++ lines_text lines

-- the line that says where a script is refused, by the number of the line, and why
abbrev pub fault_line : ℕ → List ℕ → List ℕ
fault_line at fault = written_line (fields_text (fault_fields at fault))

-- why a script without an `end` line is refused: it stops, or it goes on too long
abbrev pub unended_text : Bool → List ℕ
unended_text whole = if whole then codes "Unended" else codes "TooMuch"

-- a blank line that isn't too long is passed by
abbrev pub is_passed_by : List ℕ → Bool
is_passed_by line = nat_le (length line) LONGEST_LINE && is_blank line

-- a text begins with the front
abbrev pub IsFront : List ℕ → List ℕ → Type 0
IsFront front text = (rest : List ℕ) × (text ≡ front ++ rest)
